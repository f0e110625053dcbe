-- What each event of star mode does to the tasks of a system: a request of one of them is sent, decided by the system
-- itself, or settled by another; its answer, or control, is taken; own tasks that became owners are told.
use Rattle.grs_world.proofs.Common.{[], ◌++◌, ◌||◌, ◌∙◌, ◌∷◌, ◌≡◌, all-filter, all_sent, and_from, and_parts, answer_to}
use Rattle.grs_world.proofs.Common.{answered, ap, append-nil, Asked, askers, Bool, cond, Deck, Deq, Enq, entries_for}
use Rattle.grs_world.proofs.Common.{false, filter, filter-append, filter-cons_kept, Fixed, follows, gives_back}
use Rattle.grs_world.proofs.Common.{goes_round, here-kept, here-other, HistEntry, history, is_among, is_home_at}
use Rattle.grs_world.proofs.Common.{is_leaving, is_look, is_of, is_sent, is_some, IsAskedBy, IsGood, IsHere, IsHistory}
use Rattle.grs_world.proofs.Common.{IsLooks, IsOpenBy, IsOurs, IsReq, IsTask, known-all, lines_of, List, list_all}
use Rattle.grs_world.proofs.Common.{list_any, list_of, lists, Look, made_item, MayFollow, Meaning, mine, no_truth}
use Rattle.grs_world.proofs.Common.{NodeState, None, none, not, not-true, one, Opens, Option, outstanding, owns}
use Rattle.grs_world.proofs.Common.{owns-may, Past, past_of, put_in, recalled, refl, Release, Req, request_of, Res}
use Rattle.grs_world.proofs.Common.{res_wanted, rounds, RunItem, same_task, same_task-exact, same_task-itself, Some}
use Rattle.grs_world.proofs.Common.{stand_apart, State, state_of, StaysGood, subst, sym, SysId, task-open, task_swap}
use Rattle.grs_world.proofs.Common.{TaskId, TaskState, TasksView, tell_all, tell_answer, tell_answer_ranked, tell_new}
use Rattle.grs_world.proofs.Common.{ToldBy, ToldLine, true, unasked_by, Want, with_phase, ℕ}
use Rattle.grs_known.proofs.lists.Facts.{list_all-push}
use Rattle.grs_known.proofs.known.Histories.{live-push}
use Rattle.grs_known.proofs.system.Good.{ours-home}
use Rattle.grs_known.proofs.lists.Shows.{looks-are}
use Rattle.grs_known.proofs.known.Knows.{KnowsLooks, owns-still, entry-learned, entry-decided, looks-learned}
use Rattle.grs_known.proofs.known.Knows.{looks-decided}
use Rattle.grs_known.proofs.known.Knowing.{one-none, one-some}
use Rattle.grs_known.specs.Known.{Still}
use Rattle.grs_known.specs.Past.{may_leave}
use Rattle.grs_known.proofs.system.Events.{Decides, Looks, Leaves, tells_good}
use Rattle.grs_known.proofs.system.Askers.{apart-push}
use Rattle.grs_world.proofs.system.AtNode.{opens_of, Seen}
use Rattle.grs_world.proofs.system.Puts.{MayPut, may_put, seen-put, put}
use Rattle.grs_known.proofs.system.Outstanding.{asked-good}
use Rattle.grs_world.proofs.star.Ghosts.{ghosted, IsAt, without-box, any_part}
use Rattle.grs_world.proofs.star.Ranked.{ranked-good}
use Rattle.grs_wire.specs.declared.request.Fixed.TheVariants as fixing
use Rattle.task_state.specs.declared.state.Phase.TheVariants as phases

-- ---- the answer to an outstanding request
tell-none : (v : TasksView) (o : Option Res) → tell_new v o [] ≡ v
unfolding tell_new tell_all
tell-none v None = refl
tell-none v (Some r) = refl

-- what asks for no resource looks
pub want-looks : (S : State) (t : TaskId) (w : Want) → res_wanted w ≡ None → list_all is_look (entries_for S t w) ≡ true
want-looks S t (Enq r c ret full) e = absurd (cc)
want-looks S t (Deq r have) e = absurd (cc)
want-looks S t (Release r) e = absurd (cc)
want-looks S t (Look first count f) e = looks-are S t first count f

module _ (deck : Deck) (s : ℕ) (os os' : Opens) (P P' : List RunItem) (v : TasksView) (good : IsGood deck s os P v)
    (t : TaskId) (ls : List Meaning) (ours : IsOurs deck s v t ls) where
  abbrev here : IsHere deck os P v.told t ls (state_of v t)
  here = good.tasks.each t ls ours

  abbrev p : Past
  p = past_of t (good.tasks.each t ls ours).known P

  pub answers-asked : (a : Asked) → (state_of v t).outstanding ≡ Some a → (S : State)
      → ((h : HistEntry) (r : Res) → entries_for S t a.req.want ≡ h ∷ [] → Decides deck os os' P P' t p h r []) →
      (res_wanted a.req.want ≡ None
      → Looks deck os os' P P' t p (entries_for S t a.req.want) × (is_among t (askers os'.all) ≡ false)
      × (is_among t (askers os'.out) ≡ false))
      → (rank : ℕ) →
      StaysGood deck s os' P' v.told (tell_answer_ranked v t a (answer_to S t a.req.want) rank)
  unfolding tell_answer tell_answer_ranked
  answers-asked a is S d shows rank =
      let x : TaskState = state_of v t in
      let opened : IsOpenBy deck.limit ls t x (Some a) = subst (λ o. IsOpenBy deck.limit ls t x o) is here.opened in
      let task : IsTask ls p v.told (λ r. is_leaving r (Some a)) t (unasked_by (Some a) x) =
      subst (λ o. IsTask ls p v.told (λ r. is_leaving r o) t (unasked_by o x)) is here.task in
      let looks : IsLooks ls p.asked x.line (Some a) = subst (IsLooks ls p.asked x.line) is here.looks in
      let z =
      subst (λ y. StaysGood deck s os' P' v.told y)
      (tell-none (answered (recalled v t a.req.want) t a (answer_to S t a.req.want)) (res_wanted a.req.want))
      (asked-good deck s os os' P P' v good t ls ours a opened.0 S [] (task-open ls p v.told _ t _ None task) opened.2
      looks (λ h r wanted one. d h r one) shows) in
      ranked-good deck s os' P' v.told _ t ls _ rank
      (record { lines = ours.lines; home = ours.home; here = z.good.here t (ours-home deck s v t ls ours) }) z

-- ---- what is open without a task's
abbrev pub others_of : TaskId → List RunItem → List RunItem
others_of t xs = filter (λ x. not (is_of t x.fixed)) xs

abbrev pub without_asker : TaskId → List Req → List Req
without_asker t qs = filter (λ q. not (same_task t q.task)) qs

of-other : (t u : TaskId) (f : Fixed) → same_task u t ≡ false → is_of u f ≡ true → is_of t f ≡ false
of-other t u (fixing.Asked q) apart h =
    task_swap q.task t (subst (λ z. same_task z t ≡ false) (same_task-exact u q.task h) apart)
of-other t u (fixing.LocalLook z f) apart h =
    task_swap z t (subst (λ y. same_task y t ≡ false) (same_task-exact u z h) apart)
of-other t u (fixing.Purged target) apart h = refl

pub mine-others : (t u : TaskId) (xs : List RunItem) → same_task u t ≡ false → mine u (others_of t xs) ≡ mine u xs
mine-others t u [] apart = refl
mine-others t u (x ∷ xs) apart = go (is_of u x.fixed) refl (is_of t x.fixed) refl (mine-others t u xs apart)
  where
    go : (b : Bool) → is_of u x.fixed ≡ b → (c : Bool) → is_of t x.fixed ≡ c → mine u (others_of t xs) ≡ mine u xs
        → mine u (cond (not c) (x ∷ others_of t xs) (others_of t xs)) ≡ cond b (x ∷ mine u xs) (mine u xs)
    go true e true f h = no_truth (is_of t x.fixed) f (of-other t u x.fixed apart e)
    go true e false f h =
        ap (λ b. cond b (x ∷ mine u (others_of t xs)) (mine u (others_of t xs))) e ∙ ap (λ zs. x ∷ zs) h
    go false e true f h = h
    go false e false f h = ap (λ b. cond b (x ∷ mine u (others_of t xs)) (mine u (others_of t xs))) e ∙ h

pub mine-none : (t : TaskId) (xs : List RunItem) → mine t (others_of t xs) ≡ []
mine-none t [] = refl
mine-none t (x ∷ xs) = go (is_of t x.fixed) refl (mine-none t xs)
  where
    go : (b : Bool) → is_of t x.fixed ≡ b → mine t (others_of t xs) ≡ []
        → mine t (cond (not b) (x ∷ others_of t xs) (others_of t xs)) ≡ []
    go true e h = h
    go false e h = ap (λ b. cond b (x ∷ mine t (others_of t xs)) (mine t (others_of t xs))) e ∙ h

asked-filter : (p : Req → Bool) (u : TaskId) (o : Option Asked) (qs : List Req) → IsAskedBy u o qs
    → IsAskedBy u o (filter p qs)
asked-filter p u o [] h = tt
asked-filter p u o (q ∷ qs) h = go (p q) (asked-filter p u o qs h.1)
  where
    go : (b : Bool) → IsAskedBy u o (filter p qs) → IsAskedBy u o (cond b (q ∷ filter p qs) (filter p qs))
    go true k = (h.0, k)
    go false k = k

among-without : (t : TaskId) (qs : List Req) → is_among t (askers (without_asker t qs)) ≡ false
among-without t [] = refl
among-without t (q ∷ qs) = go (same_task t q.task) refl (among-without t qs)
  where
    go : (b : Bool) → same_task t q.task ≡ b → is_among t (askers (without_asker t qs)) ≡ false
        → is_among t (askers (cond (not b) (q ∷ without_asker t qs) (without_asker t qs))) ≡ false
    go true e h = h
    go false e h = ap (λ b. b || is_among t (askers (without_asker t qs))) e ∙ h

among-filter : (keep : Req → Bool) (t : TaskId) (qs : List Req) → is_among t (askers qs) ≡ false
    → is_among t (askers (filter keep qs)) ≡ false
among-filter keep t [] h = refl
among-filter keep t (q ∷ qs) h = go (keep q) (same_task t q.task) refl h (among-filter keep t qs)
  where
    go : (b c : Bool) → same_task t q.task ≡ c → (c || is_among t (askers qs)) ≡ false
        → (is_among t (askers qs) ≡ false → is_among t (askers (filter keep qs)) ≡ false)
        → is_among t (askers (cond b (q ∷ filter keep qs) (filter keep qs))) ≡ false
    go b true e f k = absurd (cc)
    go true false e f k = ap (λ c. c || is_among t (askers (filter keep qs))) e ∙ k f
    go false false e f k = k f

pub apart-filter : (keep : Req → Bool) (qs : List Req) → stand_apart (askers qs) ≡ true
    → stand_apart (askers (filter keep qs)) ≡ true
apart-filter keep [] h = refl
apart-filter keep (q ∷ qs) h = go (keep q) (apart-filter keep qs both.1)
  where
    both : (not (is_among q.task (askers qs)) ≡ true) × (stand_apart (askers qs) ≡ true)
    both = and_parts (not (is_among q.task (askers qs))) (stand_apart (askers qs)) h

    go : (b : Bool) → stand_apart (askers (filter keep qs)) ≡ true
        → stand_apart (askers (cond b (q ∷ filter keep qs) (filter keep qs))) ≡ true
    go true k =
        and_from (not (is_among q.task (askers (filter keep qs)))) (stand_apart (askers (filter keep qs)))
        (ap not (among-filter keep q.task qs (not-true (is_among q.task (askers qs)) both.0))) k
    go false k = k

-- ---- The answer comes.
-- Tasks after an event, and what is open at their system then.
pub record Taken (deck : Deck) (s : ℕ) (T later : List RunItem) (out : List Req) (T0 : List ToldLine) (v : TasksView) :
    Type 0 where
  pub good : IsGood deck s (record { later = later; out = out; all = out ++ [] }) T v
  pub told : ToldBy deck s (out ++ []) (history T) T0 v.told

module _ (deck : Deck) (s : ℕ) (T later : List RunItem) (right : IsHistory deck T) (out : List Req) (n : NodeState)
    (k : IsAt deck s T later out n) (t : TaskId) (ls : List Meaning) (ours : IsOurs deck s n.tasks t ls) (a : Asked)
    (is : (state_of n.tasks t).outstanding ≡ Some a) where
  abbrev os : Opens
  os = opens_of later out (ghosted n)

  pub takes-answer : (x : RunItem) (S : State) → x.entries ≡ entries_for S t a.req.want → mine t later ≡ x ∷ []
      → (rank : ℕ) →
      Taken deck s T (others_of t later) (without_asker t out) n.tasks.told
      (tell_answer_ranked n.tasks t a (answer_to S t a.req.want) rank)
  takes-answer x S made due rank =
      let z = answers-asked deck s os os' T T n.tasks k.good t ls ours a is S decides shows rank in
      record { good = z.good; told = z.told }
    where
      os' : Opens
      os' = record { later = others_of t later; out = without_asker t out; all = without_asker t out ++ [] }

      is_due : outstanding t (k.good.tasks.each t ls ours).known T ≡ Some x
      is_due =
          (one-some (outstanding t (k.good.tasks.each t ls ours).known T) x []
          (sym due ∙ (k.good.tasks.each t ls ours).due)).0

      fewer : (u : TaskId) (o : Option Asked) → IsAskedBy u o (out ++ []) → IsAskedBy u o (without_asker t out ++ [])
      fewer u o h =
          subst (IsAskedBy u o) (filter-append (λ q. not (same_task t q.task)) out [])
          (asked-filter (λ q. not (same_task t q.task)) u o (out ++ []) h)

      leaves : Leaves deck os os' T T t
      leaves u ms T1 T2 y apart told j =
          here-kept deck os os' T T1 T2 u ms y (mine-others t u later apart) (fewer u y.outstanding)
          (λ f. all-filter (λ q. not (same_task u q.task) || is_sent y.phase) (λ q. not (same_task t q.task)) out f)
          told
          j

      away : is_among t (askers os'.all) ≡ false
      away = ap (λ qs. is_among t (askers qs)) (append-nil (without_asker t out)) ∙ among-without t out

      decides : (h : HistEntry) (r : Res) → entries_for S t a.req.want ≡ h ∷ []
          → Decides deck os os' T T t (past_of t (k.good.tasks.each t ls ours).known T) h r []
      decides h r e = record {
        right = right;
        learns =
            entry-learned deck T x t (k.good.tasks.each t ls ours).known h right
            (k.good.tasks.each t ls ours).knows.live (k.good.tasks.each t ls ours).knows.right is_due (made ∙ e);
        due = mine-none t later;
        leaves = leaves;
        away = away;
        away_out = among-without t out;
        owners = λ u f. absurd (cc);
      }

      shows : res_wanted a.req.want ≡ None
          → Looks deck os os' T T t (past_of t (k.good.tasks.each t ls ours).known T) (entries_for S t a.req.want)
          × (is_among t (askers os'.all) ≡ false) × (is_among t (askers os'.out) ≡ false)
      shows absent = (
        record {
          right = right;
          learns = subst (KnowsLooks T t (past_of t (k.good.tasks.each t ls ours).known T)) made
              (looks-learned T x t (k.good.tasks.each t ls ours).known (k.good.tasks.each t ls ours).knows.live
              (k.good.tasks.each t ls ours).knows.right is_due
              (ap (list_all is_look) made ∙ want-looks S t a.req.want absent));
          due = mine-none t later;
          leaves = leaves;
        },
        away,
        among-without t out,
      )

  -- ---- The system decides the request itself.
  abbrev q : Req
  q = request_of t a

  abbrev x_own : SysId → RunItem
  x_own c = made_item c T (fixing.Asked (request_of t a))

  pub decides-own : (c : SysId) → MayFollow deck T (x_own c) → mine t later ≡ [] → is_among t (askers out) ≡ false
      → (rank : ℕ) →
      Taken deck s (T ++ x_own c ∷ []) later out n.tasks.told
      (tell_answer_ranked n.tasks t a (answer_to (lists T) t a.req.want) rank)
  decides-own c m idle free rank =
      let z =
      answers-asked deck s os os T (T ++ x_own c ∷ []) n.tasks k.good t ls ours a is (lists T) decides shows rank in
      record { good = z.good; told = z.told }
    where
      none_open : outstanding t (k.good.tasks.each t ls ours).known T ≡ None
      none_open =
          one-none (outstanding t (k.good.tasks.each t ls ours).known T) (sym idle ∙ (k.good.tasks.each t ls ours).due)

      leaves : Leaves deck os os T (T ++ x_own c ∷ []) t
      leaves u ms T1 T2 y apart told j =
          here-kept deck (opens_of later out (ghosted n)) (opens_of later out (ghosted n)) (T ++ x_own c ∷ []) T1 T2 u
          ms y refl (λ f. f) (λ f. f) told
          (here-other deck (opens_of later out (ghosted n)) T (x_own c) T1 u ms y apart refl j)

      away : is_among t (askers (out ++ [])) ≡ false
      away = ap (λ qs. is_among t (askers qs)) (append-nil out) ∙ free

      decides : (h : HistEntry) (r : Res) → entries_for (lists T) t a.req.want ≡ h ∷ []
          → Decides deck os os T (T ++ x_own c ∷ []) t (past_of t (k.good.tasks.each t ls ours).known T) h r []
      decides h r e = record {
        right = follows deck T (x_own c) right m;
        learns =
            entry-decided deck T (x_own c) t (k.good.tasks.each t ls ours).known h (follows deck T (x_own c) right m)
            (same_task-itself t) refl (live-push t T (x_own c) (k.good.tasks.each t ls ours).knows.live refl)
            (k.good.tasks.each t ls ours).knows.right
            (known-all T t (k.good.tasks.each t ls ours).known (k.good.tasks.each t ls ours).knows.right none_open) e;
        due = idle;
        leaves = leaves;
        away = away;
        away_out = free;
        owners = λ u f. absurd (cc);
      }

      shows : res_wanted a.req.want ≡ None
          → Looks deck os os T (T ++ x_own c ∷ []) t (past_of t (k.good.tasks.each t ls ours).known T)
          (entries_for (lists T) t a.req.want)
          × (is_among t (askers (out ++ [])) ≡ false) × (is_among t (askers out) ≡ false)
      shows absent = (
        record {
          right = follows deck T (x_own c) right m;
          learns = looks-decided T (x_own c) t (k.good.tasks.each t ls ours).known (same_task-itself t) refl
              (live-push t T (x_own c) (k.good.tasks.each t ls ours).knows.live refl)
              (k.good.tasks.each t ls ours).knows.right
              (known-all T t (k.good.tasks.each t ls ours).known (k.good.tasks.each t ls ours).knows.right none_open)
              (want-looks (lists T) t a.req.want absent);
          due = idle;
          leaves = leaves;
        },
        away,
        free,
      )

-- ---- Own tasks that became owners are told.
calm-one : (r : Res) (u : TaskId) (y : RunItem) (xs : List RunItem) → list_any (λ z. gives_back r z.fixed) xs ≡ false
    → mine u xs ≡ y ∷ [] → gives_back r y.fixed ≡ false
calm-one r u y [] h e = absurd (cc)
calm-one r u y (z ∷ zs) h e = go (is_of u z.fixed) (gives_back r z.fixed) refl h e (calm-one r u y zs)
  where
    go : (b g : Bool) → gives_back r z.fixed ≡ g → (g || list_any (λ w. gives_back r w.fixed) zs) ≡ false
        → cond b (z ∷ mine u zs) (mine u zs) ≡ y ∷ []
        → (list_any (λ w. gives_back r w.fixed) zs ≡ false → mine u zs ≡ y ∷ [] → gives_back r y.fixed ≡ false)
        → gives_back r y.fixed ≡ false
    go b true f k j more = absurd (cc)
    go true false f k j more = let same : z ≡ y = cc in subst (λ (w : RunItem). gives_back r w.fixed ≡ false) same f
    go false false f k j more = more k j

calm-open : (r : Res) (later : List RunItem) (u : TaskId) (o : Option RunItem)
    → list_any (λ y. gives_back r y.fixed) later ≡ false → mine u later ≡ one o → may_leave r o ≡ false
calm-open r later u None calm due = refl
calm-open r later u (Some y) calm due = calm-one r u y later calm due

pub tells-owners : (deck : Deck) (s : ℕ) (T later : List RunItem) (out : List Req) → IsHistory deck T
    → (T0 : List ToldLine) (v : TasksView) → Taken deck s T later out T0 v → (r : Res) (ts : List TaskId) →
    ((u : TaskId) → is_among u ts ≡ true → owns (list_of (lists T) r) u ≡ true)
    → list_any (λ y. gives_back r y.fixed) later ≡ false → Taken deck s T later out T0 (tell_all v r ts)
tells-owners deck s T later out right T0 v k r ts owned calm =
    let z = tells_good deck s (record { later = later; out = out; all = out ++ [] }) T right T0 v k.good k.told r ts
    (λ u e. (
      (and_parts _ _ (owns-may deck T r u right.asks (owned u e))).0,
      λ U ls y j.
          owns-still r u T (outstanding u j.known T) (calm-open r later u (outstanding u j.known T) calm j.due)
          (owned u e),
    )) in
    record { good = z.good; told = z.told }

-- those of what a request asks for, if it is a resource
pub tells-new : (deck : Deck) (s : ℕ) (T later : List RunItem) (out : List Req) → IsHistory deck T
    → (T0 : List ToldLine) (v : TasksView) → Taken deck s T later out T0 v → (o : Option Res) (ts : List TaskId) →
    ((r : Res) → o ≡ Some r
    → ((u : TaskId) → is_among u ts ≡ true → owns (list_of (lists T) r) u ≡ true)
    × (list_any (λ y. gives_back r y.fixed) later ≡ false))
    → Taken deck s T later out T0 (tell_new v o ts)
unfolding tell_new
tells-new deck s T later out right T0 v k None ts owned = k
tells-new deck s T later out right T0 v k (Some r) ts owned =
    let z = owned r refl in tells-owners deck s T later out right T0 v k r ts z.0 z.1

-- ---- Control is taken.
pub takes-control : (deck : Deck) (s : ℕ) (T later : List RunItem) (out : List Req) → IsHistory deck T → (n : NodeState)
    → IsAt deck s T later out n → (t : TaskId) (r : Res) → is_some (lines_of deck t) ≡ true →
    ((o : Option RunItem) → mine t later ≡ one o → Still r t T o)
    → Taken deck s T later out n.tasks.told (tell_all n.tasks r (t ∷ []))
takes-control deck s T later out right n k t r some still =
    let z =
    tells_good deck s (record { later = later; out = out; all = out ++ [] }) T right n.tasks.told n.tasks k.good none r
    (t ∷ []) (λ u e. owner u (only u e)) in
    record { good = z.good; told = z.told }
  where
    only : (u : TaskId) → (same_task u t || false) ≡ true → u ≡ t
    only u e = go (same_task u t) refl e
      where
        go : (b : Bool) → same_task u t ≡ b → (b || false) ≡ true → u ≡ t
        go true f h = same_task-exact u t f
        go false f h = absurd (cc)

    owner : (u : TaskId) → u ≡ t
        → (is_some (lines_of deck u) ≡ true)
        × ((U : List ToldLine) (ls : List Meaning) (y : TaskState)
        (j : IsHere deck (record { later = later; out = out; all = out ++ [] }) T U u ls y)
        → Still r u T (outstanding u j.known T))
    owner u e = (
      subst (λ z. is_some (lines_of deck z) ≡ true) (sym e) some,
      λ U ls y j.
          subst (λ z. Still r z T (outstanding u j.known T)) (sym e)
          (still (outstanding u j.known T) (ap (λ z. mine z later) (sym e) ∙ j.due)),
    )

-- ---- A request that was sent is settled by another system: its task is behind.
pub record Settled (deck : Deck) (s : ℕ) (T later : List RunItem) (out : List Req) (n : NodeState) (q : Req)
    (c : SysId) :
    Type 0 where
  pub round : goes_round (fixing.Asked q) ≡ true
  pub follow : MayFollow deck T (made_item c T (fixing.Asked q))
  pub at : IsAt deck s (T ++ made_item c T (fixing.Asked q) ∷ []) (later ++ made_item c T (fixing.Asked q) ∷ []) out n

-- the same system with all that was sent in its outbox
module _ (deck : Deck) (s : ℕ) (T later : List RunItem) (right : IsHistory deck T) (out : List Req) (n : NodeState)
    (k : IsAt deck s T later out n) (front : List Req) (q : Req) (rest : List Req) (among : out ≡ front ++ q ∷ rest)
    (idle : mine q.task later ≡ []) (c : SysId) where
  abbrev unsent : NodeState
  unsent = record n { star = Some any_part; outbox = out; shared = [] }

  abbrev item : RunItem
  item = made_item c T (fixing.Asked q)

  seen-unsent : Seen deck s T [] later [] unsent
  seen-unsent = record {
    good = record {
      tasks = record {
        each = λ u ls o.
            here-kept deck (opens_of later out (ghosted n)) (opens_of later [] unsent) T n.tasks.told n.tasks.told u ls
            (state_of n.tasks u) refl (λ a. subst (IsAskedBy u (state_of n.tasks u).outstanding) (append-nil out) a)
            (λ a. refl) (λ p leaving y j. j) (k.good.tasks.each u ls o);
      };
      here = k.good.here;
      system = k.good.system;
    };
    own = k.own;
    shared = refl;
    homes = sym (ap (list_all (λ z. is_home_at deck s z.task)) (append-nil out)) ∙ k.homes;
    apart = sym (ap (λ qs. stand_apart (askers qs)) (append-nil out)) ∙ k.apart;
  }

  may : MayPut deck T q
  may = may_put deck s T [] later [] unsent seen-unsent front q rest among right idle

  behind : Seen deck s (T ++ item ∷ []) [] (later ++ rounds (item ∷ [])) [] unsent
  behind = seen-put deck s T [] later [] unsent seen-unsent front q rest among right idle c (may.follow c) may.round

  items : later ++ rounds (item ∷ []) ≡ later ++ item ∷ []
  items = ap (λ xs. later ++ xs) (filter-cons_kept (λ z. goes_round z.fixed) item [] may.round)

  pub asker-settled : Settled deck s T later out n q c
  asker-settled = record {
    round = may.round;
    follow = may.follow c;
    at = record {
      good = record {
        tasks = record { each = λ u ls o. each_is u ls o (behind.good.tasks.each u ls o) (k.good.tasks.each u ls o) };
        here = behind.good.here;
        system = behind.good.system;
      };
      own = behind.own;
      shared = refl;
      homes = k.homes;
      apart = k.apart;
    };
  }
    where
      each_is : (u : TaskId) (ls : List Meaning) → IsOurs deck s n.tasks u ls
          → IsHere deck (opens_of (later ++ rounds (item ∷ [])) [] unsent) (T ++ item ∷ []) n.tasks.told u ls
          (state_of n.tasks u)
          → IsHere deck (opens_of later out (ghosted n)) T n.tasks.told u ls (state_of n.tasks u) →
          IsHere deck (opens_of (later ++ item ∷ []) out (ghosted n)) (T ++ item ∷ []) n.tasks.told u ls
          (state_of n.tasks u)
      each_is u ls o z was = record {
        known = z.known;
        knows = z.knows;
        due = sym (ap (mine u) items) ∙ z.due;
        task = z.task;
        opened = z.opened;
        looks = z.looks;
        asked = was.asked;
        sent = was.sent;
      }

-- ---- A request that waits is sent, or is the next that the system decides.
module _ (deck : Deck) (s : ℕ) (T later : List RunItem) (out : List Req) (n : NodeState) (k : IsAt deck s T later out n)
    (t : TaskId) (ls : List Meaning) (ours : IsOurs deck s n.tasks t ls) (a : Asked)
    (is : (state_of n.tasks t).outstanding ≡ Some a) (free : is_among t (askers out) ≡ false) where
  -- the system with that request in its outbox
  abbrev boxed : NodeState
  boxed = record n { star = Some any_part; outbox = request_of t a ∷ []; shared = [] }

  asks : IsHere deck (opens_of later out (ghosted n)) T n.tasks.told t ls (state_of n.tasks t)
  asks = k.good.tasks.each t ls ours

  request-is : a.req ≡ request_of t a
  request-is =
      ap (λ (z : TaskId). record { task = z; want = a.req.want })
      (subst (λ o. IsOpenBy deck.limit ls t (state_of n.tasks t) o) is asks.opened).0

  asked-more : (u : TaskId) (ms : List Meaning) → IsOurs deck s n.tasks u ms → (qs : List Req)
      → IsAskedBy u (state_of n.tasks u).outstanding (qs ++ [])
      → IsAskedBy u (state_of n.tasks u).outstanding (qs ++ request_of t a ∷ [])
  asked-more u ms o [] h = (λ e. mine_is (same_task-exact u t e), tt)
    where
      mine_is : u ≡ t → IsReq (request_of t a) (state_of n.tasks u).outstanding
      mine_is e = subst (IsReq (request_of t a)) (sym (ap (λ z. (state_of n.tasks z).outstanding) e ∙ is)) request-is
  asked-more u ms o (q ∷ qs) h = (h.0, asked-more u ms o qs h.1)

  seen-boxed : Seen deck s T [] later out boxed
  seen-boxed = record {
    good = record {
      tasks = record {
        each = λ u ms o.
            here-kept deck (opens_of later out (ghosted n)) (opens_of later out boxed) T n.tasks.told n.tasks.told u ms
            (state_of n.tasks u) refl (asked-more u ms o out) (λ f. f) (λ p leaving y j. j) (k.good.tasks.each u ms o);
      };
      here = k.good.here;
      system = k.good.system;
    };
    own = k.own;
    shared = refl;
    homes =
        list_all-push (λ z. is_home_at deck s z.task) out (request_of t a)
        ∙ and_from (list_all (λ z. is_home_at deck s z.task) out) (is_home_at deck s t)
        (sym (ap (list_all (λ z. is_home_at deck s z.task)) (append-nil out)) ∙ k.homes)
        (ours-home deck s n.tasks t ls ours);
    apart = apart-push out (request_of t a) (sym (ap (λ qs. stand_apart (askers qs)) (append-nil out)) ∙ k.apart) free;
  }

  pub sent : IsAt deck s T later (out ++ request_of t a ∷ []) (record n { tasks = with_phase n.tasks t phases.Sent })
  unfolding put_in all_sent
  sent =
      without-box deck s T later (out ++ request_of t a ∷ []) (put_in boxed 1).node
      (put deck s T [] later out boxed 1 seen-boxed)

  pub may_own : IsHistory deck T → mine t later ≡ [] → MayPut deck T (request_of t a)
  may_own right idle = may_put deck s T [] later out boxed seen-boxed [] (request_of t a) [] refl right idle
