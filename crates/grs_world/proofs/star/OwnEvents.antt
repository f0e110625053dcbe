-- What an event of a system in star mode does to what holds of it.
use Rattle.grs_world.proofs.Common.{[], ◌&&◌, ◌++◌, ◌||◌, ◌∙◌, ◌∷◌, ◌≡◌, and_from, answer_to, Answered, ap, Asked}
use Rattle.grs_world.proofs.Common.{askers, blank, Bool, Coming, cond, Deck, Deq, Enq, entry_of_res, entry_wanted}
use Rattle.grs_world.proofs.Common.{false, false_by, Fixed, follows, gives_back, gives_up, goes_round, Granted, history}
use Rattle.grs_world.proofs.Common.{is_among, is_home_at, is_of, is_res_of, is_systems, IsHistory, IsOurs, last_of}
use Rattle.grs_world.proofs.Common.{lines_of, List, list_all, list_any, list_of, lists, Look, made_item, Mail, may_go}
use Rattle.grs_world.proofs.Common.{MayFollow, Meaning, mine, no_truth, NodeState, None, Notice, one, Option}
use Rattle.grs_world.proofs.Common.{outstanding, owns, Part, part, refl, Release, removes_system_of, Req, request_of}
use Rattle.grs_world.proofs.Common.{Res, res_wanted, RunItem, same_res-exact, same_Some, same_task, same_task-exact}
use Rattle.grs_world.proofs.Common.{Some, StarPart, state_of, Step, subst, sym, SysId, System, task_step, TaskId}
use Rattle.grs_world.proofs.Common.{TasksView, tell_answer_ranked, tell_new, ToldBy, ToldLine, true, Want, wants_round}
use Rattle.grs_world.proofs.Common.{with_phase, ℕ}
use Rattle.grs_wire.specs.declared.medium.Mail.TheVariants.{Request}
use Rattle.grs_known.proofs.known.Blank.{coming-other, coming-decided}
use Rattle.grs_known.specs.Known.{IsRight}
use Rattle.grs_known.proofs.known.Knowing.{outstanding-own}
use Rattle.grs_base.specs.declared.resource.Res.TheVariants.{Step as StepRes, Systems}
use Rattle.grs_known.specs.Laws.{is_given_back}
use Rattle.grs_known.proofs.lists.Facts.{list_all-push}
use Rattle.grs_world.proofs.system.AtNode.{MayFix, fix-stays, part-round}
use Rattle.grs_world.proofs.system.Puts.{MayPut}
use Rattle.grs_world.proofs.star.Answering.{Taken, decides-own, may_own, sent, tells-new}
use Rattle.grs_world.proofs.star.Ghosts.{IsAt, TaskStep, idles, does, task-goes, told-free}
use Rattle.grs_world.proofs.star.Members.{has_manager}
use Rattle.grs_world.proofs.star.Systems.{IsSystem, IsLate, AllLate, AllFit, Keeps, is_near, is_late, news_of}
use Rattle.grs_world.proofs.star.Systems.{late-none, here, behind-late, right-late, system-words}
use Rattle.grs_world.proofs.star.Under.{res-entry}
use Rattle.grs_wire.specs.declared.request.Fixed.TheVariants as fixing
use Rattle.task_state.specs.declared.state.Phase.TheVariants as phases

-- what a system is afterwards, and what it told
pub record Goes (deck : Deck) (words : List ℕ) (T : List RunItem) (s : ℕ) (n : NodeState) (ms : List Mail)
    (later : List RunItem) (out : List Req) (T0 : List ToldLine) :
    Type 0 where
  pub system : IsSystem deck words T s n ms later out
  pub told : ToldBy deck s [] (history T) T0 n.tasks.told

-- ---- what is of no entry, or of one that the system manages itself, gives up nothing of which something comes
pub given-entry : (deck : Deck) (r : Res) (w : Want) → gives_up r w ≡ true
    → entry_wanted deck.entries w ≡ entry_of_res deck.entries r
given-entry deck r (Enq q c ret full) h = absurd (cc)
given-entry deck r (Deq q have) h = ap (entry_of_res deck.entries) (sym (same_res-exact r q h))
given-entry deck r (Release q) h = ap (entry_of_res deck.entries) (sym (same_res-exact r q h))
given-entry deck r (Look first count f) h = absurd (cc)

fits-calm : (deck : Deck) (words : List ℕ) (s : ℕ) (t : TaskId) (f : Fixed) (ms : List Mail)
    → ((r : Res) (e : ℕ) → gives_back r f ≡ true → entry_of_res deck.entries r ≡ Some e
    → has_manager words e s ≡ true)
    → AllFit deck words s ms → list_any (is_given_back t f) (news_of ms) ≡ false
fits-calm deck words s t f [] homely h = refl
fits-calm deck words s t f (Request e from z ∷ ms) homely h = fits-calm deck words s t f ms homely h.1
fits-calm deck words s t f (Answered u answer rank ∷ ms) homely h = fits-calm deck words s t f ms homely h.1
fits-calm deck words s t f (Granted u r ∷ ms) homely h =
    go (same_task t u) (gives_back r f) refl (fits-calm deck words s t f ms homely h.1)
  where
    go : (b c : Bool) → gives_back r f ≡ c → list_any (is_given_back t f) (news_of ms) ≡ false
        → ((b && c) || list_any (is_given_back t f) (news_of ms)) ≡ false
    go b true e more = no_truth (has_manager words h.0.entry s) (homely r h.0.entry e h.0.at) h.0.away.0
    go true false e more = more
    go false false e more = more
fits-calm deck words s t f (Notice target moved ∷ ms) homely h = absurd h.0
fits-calm deck words s t f (Part e from records ∷ ms) homely h = absurd h.0

-- and control of such a resource isn't what an item gives up that is to come
pub late-calm : (deck : Deck) (words : List ℕ) (s : ℕ) (r : Res) (e : ℕ) (xs : List RunItem)
    → entry_of_res deck.entries r ≡ Some e → has_manager words e s ≡ true → AllLate deck words s xs
    → list_any (λ y. gives_back r y.fixed) xs ≡ false
late-calm deck words s r e [] is mine h = refl
late-calm deck words s r e (x ∷ xs) is mine h =
    ap (λ b. b || list_any (λ y. gives_back r y.fixed) xs)
    (ap (gives_back r) h.0.asked ∙ false_by (gives_up r h.0.req.want) (λ g. calm g))
    ∙ late-calm deck words s r e xs is mine h.1
  where
    calm : gives_up r h.0.req.want ≡ true → gives_up r h.0.req.want ≡ false
    calm g =
        no_truth (has_manager words e s) mine (ap (λ i. has_manager words i s)
        (same_Some e h.0.entry (sym is ∙ (sym (given-entry deck r h.0.req.want g) ∙ h.0.at)))
        ∙ h.0.away.0)

pub late-in : (deck : Deck) (words : List ℕ) (s : ℕ) (t : TaskId) (y : RunItem) (ys xs : List RunItem)
    → mine t xs ≡ y ∷ ys → AllLate deck words s xs → IsLate deck words s y
late-in deck words s t y ys [] e h = absurd (cc)
late-in deck words s t y ys (x ∷ xs) e h = go (is_of t x.fixed) e (late-in deck words s t y ys xs)
  where
    go : (b : Bool) → cond b (x ∷ mine t xs) (mine t xs) ≡ y ∷ ys
        → (mine t xs ≡ y ∷ ys → AllLate deck words s xs → IsLate deck words s y) → IsLate deck words s y
    go true f more = let same : x ≡ y = cc in subst (IsLate deck words s) same h.0
    go false f more = more f h.1

-- a request that doesn't go with the message is of no entry
res-round : (deck : Deck) (r : Res) (e : ℕ) → is_systems r ≡ false → entry_of_res deck.entries r ≡ Some e → ⊥
res-round deck (StepRes n j q r) e h f = absurd (cc)
res-round deck (System n q r) e h f = absurd (cc)
res-round deck (Systems q r) e h f = absurd (cc)

pub want-round : (deck : Deck) (w : Want) (e : ℕ) → wants_round w ≡ false → entry_wanted deck.entries w ≡ Some e → ⊥
want-round deck (Enq r c ret full) e h f = res-round deck r e h f
want-round deck (Deq r have) e h f = res-round deck r e h f
want-round deck (Release r) e h f = res-round deck r e h f
want-round deck (Look first count g) e h f = absurd (cc)

-- what doesn't go with the message gives up no resource of an entry
gives-nothing : (deck : Deck) (f : Fixed) → goes_round f ≡ false → (r : Res) (e : ℕ) → gives_back r f ≡ true
    → entry_of_res deck.entries r ≡ Some e → ⊥
gives-nothing deck (fixing.Asked q) away r e gives is =
    want-round deck q.want e away (given-entry deck r q.want gives ∙ is)
gives-nothing deck (fixing.LocalLook t f) away r e gives is = absurd (cc)
gives-nothing deck (fixing.Purged target) away r e gives is = absurd (cc)

pub local-calm : (deck : Deck) (words : List ℕ) (s : ℕ) (t : TaskId) (f : Fixed) (ms : List Mail)
    → goes_round f ≡ false → AllFit deck words s ms → list_any (is_given_back t f) (news_of ms) ≡ false
local-calm deck words s t f ms away h =
    fits-calm deck words s t f ms (λ r e gives is. absurd (gives-nothing deck f away r e gives is)) h

module _ (deck : Deck) (words : List ℕ) (T : List RunItem) (right : IsHistory deck T) (s : ℕ) (n : NodeState)
    (ms : List Mail) (later : List RunItem) (out : List Req) (h : IsSystem deck words T s n ms later out) where
  -- what comes, behind an item of a task of its own
  pub coming-own : (c : SysId) (f : Fixed) → ((t : TaskId) → removes_system_of t f ≡ false) →
      ((t : TaskId) → is_home_at deck s t ≡ true → is_of t f ≡ true
      → (is_late t later ≡ false) × (list_any (is_given_back t f) (news_of ms) ≡ false))
      → (t : TaskId) → is_home_at deck s t ≡ true
      → Coming t (blank (is_late t later)) (T ++ made_item c T f ∷ []) (news_of ms)
  coming-own c f stays calm t home = go (is_of t f) refl
    where
      item : RunItem
      item = made_item c T f

      go : (b : Bool) → is_of t f ≡ b
          → Coming t (blank (is_late t later)) (T ++ made_item c T f ∷ []) (news_of ms)
      go false apart =
          coming-other t (is_late t later) T item (news_of ms) apart (stays t)
          (right-late deck s T later out n h.at t home) (h.coming t home)
      go true same =
          let k = calm t home same in
          subst (λ b. Coming t (blank b) (T ++ item ∷ []) (news_of ms)) (sym k.0)
          (coming-decided t T item (news_of ms) same refl k.1
          (subst (λ b. IsRight t (blank b) T) k.0 (right-late deck s T later out n h.at t home))
          (subst (λ b. Coming t (blank b) T (news_of ms)) k.0 (h.coming t home)))

  -- ---- a task goes on by itself
  after-task : (T' : List RunItem) (n' : NodeState) → IsAt deck s T' later out n'
      → ((t : TaskId) → is_home_at deck s t ≡ true → Coming t (blank (is_late t later)) T' (news_of ms))
      → IsSystem deck words T' s n' ms later out
  after-task T' n' at coming = record {
    at = at;
    late = h.late;
    sent = h.sent;
    near = h.near;
    coming = coming;
    answered = h.answered;
    fits = h.fits;
  }

  -- what it fixes, if it fixes anything, is for a resource of the system alone
  pub data Task (c : SysId) (st : Step) : Type 0 where
    idle_task : st.fixed ≡ [] → Goes deck words T s st.node ms later out n.tasks.told → Task c st
    local_task : (f : Fixed) → st.fixed ≡ f ∷ [] → goes_round f ≡ false → MayFix deck s c T f
        → Goes deck words (T ++ made_item c T f ∷ []) s st.node ms later out n.tasks.told → Task c st

  pub system-task : (c : SysId) (t : TaskId) (p : StarPart) → n.star ≡ Some p → may_go deck n t ≡ true
      → Task c (task_step deck.limit n t (lines_of deck t))
  system-task c t p is goes = by_step (task-goes deck s c T later out n t p is right h.at goes)
    where
      by_step : TaskStep deck s c T later out n (task_step deck.limit n t (lines_of deck t))
          → Task c (task_step deck.limit n t (lines_of deck t))
      by_step (idles none_fixed at told) =
          idle_task none_fixed
          (record { system = after-task T (task_step deck.limit n t (lines_of deck t)).node at h.coming; told = told })
      by_step (does f one_fixed away may at told) =
          local_task f one_fixed away may (record {
            system =
                after-task (T ++ made_item c T f ∷ []) (task_step deck.limit n t (lines_of deck t)).node at
                (coming-own c f (λ u. fix-stays may u) (λ u home of. (
                  false_by (is_late u later) (late_item u home of),
                  local-calm deck words s u f ms away h.fits,
                )));
            told = told;
          })
        where
          late_item : (u : TaskId) → is_home_at deck s u ≡ true → is_of u f ≡ true → is_late u later ≡ true
              → is_late u later ≡ false
          late_item u home of late =
              let item : RunItem = made_item c T f in
              let T' : List RunItem = T ++ item ∷ [] in
              let k = here deck s T' later out (task_step deck.limit n t (lines_of deck t)).node at u home in
              let last : last_of (mine u T') ≡ Some item = outstanding-own u T item of k.known in
              let out_is : outstanding u k.known T' ≡ Some item =
              ap (λ b. cond b (last_of (mine u T')) None)
              (behind-late deck s T' later out (task_step deck.limit n t (lines_of deck t)).node at u home ∙ late)
              ∙ last in
              let i = late-in deck words s u item [] later (k.due ∙ ap one out_is) h.late in
              absurd (want-round deck i.req.want i.entry (sym (ap goes_round i.asked) ∙ away) i.at)

  -- ---- the system with other tasks, where what is open stays
  at-tasks : (T' : List RunItem) (v : TasksView) (o : Option StarPart) (T0 : List ToldLine)
      → n.own ≡ part (is_res_of s) (lists T') → Taken deck s T' later out T0 v
      → IsAt deck s T' later out (record n { tasks = v; star = o })
  at-tasks T' v o T0 held
      k = record { good = k.good; own = held; shared = refl; homes = h.at.homes; apart = h.at.apart }

  -- ---- it decides a request of its own task
  module _ (t : TaskId) (ls : List Meaning) (ours : IsOurs deck s n.tasks t ls) (home : is_home_at deck s t ≡ true)
      (a : Asked) (is : (state_of n.tasks t).outstanding ≡ Some a) (free : is_among t (askers out) ≡ false) where
    may : MayPut deck T (request_of t a)
    may = may_own deck s T later out n h.at t ls ours a is free right (h.sent t free)

    pub may-follow : (c : SysId) → MayFollow deck T (made_item c T (fixing.Asked (request_of t a)))
    may-follow c = may.follow c

    -- the request that it sends
    pub system-sent : (words' : List ℕ) (o : Option StarPart) → Keeps words words' s
        → is_near deck words' s (request_of t a) ≡ true
        → IsSystem deck words' T s (record n { tasks = with_phase n.tasks t phases.Sent; star = o }) ms later
        (out ++ request_of t a ∷ [])
    system-sent words' o keeps near =
        let z = system-words deck words words' T s n ms later out keeps h in
        record {
          at = sent deck s T later out n h.at t ls ours a is free;
          late = z.late;
          sent = λ u none. h.sent u (front_none u out none);
          near =
              list_all-push (is_near deck words' s) out (request_of t a)
              ∙ and_from (list_all (is_near deck words' s) out) (is_near deck words' s (request_of t a)) z.near near;
          coming = h.coming;
          answered = h.answered;
          fits = z.fits;
        }
      where
        front_none : (u : TaskId) (qs : List Req) → is_among u (askers (qs ++ request_of t a ∷ [])) ≡ false
            → is_among u (askers qs) ≡ false
        front_none u [] e = refl
        front_none u (q ∷ qs) e = go (same_task u q.task) e (front_none u qs)
          where
            go : (b : Bool) → (b || is_among u (askers (qs ++ request_of t a ∷ []))) ≡ false
                → (is_among u (askers (qs ++ request_of t a ∷ [])) ≡ false → is_among u (askers qs) ≡ false)
                → (b || is_among u (askers qs)) ≡ false
            go true f more = absurd (cc)
            go false f more = more f

    -- what it decides
    module _ (c : SysId) (entry : ℕ) (of_entry : entry_wanted deck.entries a.req.want ≡ Some entry)
        (mine_entry : has_manager words entry s ≡ true) (ts : List TaskId) where
      abbrev item : RunItem
      item = made_item c T (fixing.Asked (request_of t a))

      pub system-decided : (rank : ℕ) (o : Option StarPart)
          → ((r : Res) → res_wanted a.req.want ≡ Some r → (u : TaskId) → is_among u ts ≡ true
          → owns (list_of (lists (T ++ item ∷ [])) r) u ≡ true) →
          Goes deck words (T ++ item ∷ []) s (record n {
            tasks =
                tell_new (tell_answer_ranked n.tasks t a (answer_to (lists T) t a.req.want) rank)
                (res_wanted a.req.want) ts;
            star = o;
          })
          ms later out n.tasks.told
      system-decided rank o owned =
          let m = may-follow c in
          let T' : List RunItem = T ++ item ∷ [] in
          let k = decides-own deck s T later right out n h.at t ls ours a is c m (h.sent t free) free rank in
          let told =
          tells-new deck s T' later out (follows deck T item right m) n.tasks.told
          (tell_answer_ranked n.tasks t a (answer_to (lists T) t a.req.want) rank) k (res_wanted a.req.want) ts
          (λ r wanted. (
            owned r wanted,
            late-calm deck words s r entry later (res-entry deck.entries a.req.want r entry wanted of_entry)
                mine_entry h.late,
          )) in
          record {
            system = record {
              at =
                  at-tasks T' (tell_new (tell_answer_ranked n.tasks t a (answer_to (lists T) t a.req.want) rank)
                  (res_wanted a.req.want) ts)
                  o n.tasks.told (h.at.own ∙ part-round deck s T item m.ask may.round) told;
              late = h.late;
              sent = h.sent;
              near = h.near;
              coming = coming-own c (fixing.Asked (request_of t a)) (λ u. refl) (λ u home_u same. (
                ap (λ z. is_late z later) (same_task-exact u t same) ∙ late-none t later (h.sent t free),
                fits-calm deck words s u (fixing.Asked (request_of t a)) ms
                    (λ r e gives at.
                    ap (λ i. has_manager words i s)
                    (same_Some e entry (sym (given-entry deck r a.req.want gives ∙ at) ∙ of_entry))
                    ∙ mine_entry)
                    h.fits,
              ));
              answered = h.answered;
              fits = h.fits;
            };
            told = told-free deck s (out ++ []) (history T') n.tasks.told _ told.told;
          }
