-- What taking a mail does to what holds of a system.
use Rattle.grs_world.proofs.Common.{[], ◌&&◌, ◌++◌, ◌==◌, ◌||◌, ◌∙◌, ◌∷◌, ◌≡◌, after_mail, all-filter, and_from}
use Rattle.grs_world.proofs.Common.{and_parts, Answer, answer_to, Answered, ap, append-nil, are_sent, arith, Asked}
use Rattle.grs_world.proofs.Common.{askers, blank, Bool, Coming, cond, Deck, Deq, Enq, entries_for, eq-eqb, eqb-true}
use Rattle.grs_world.proofs.Common.{false, false_by, Granted, has_effect, history, is_among, is_for_deck, is_home_at}
use Rattle.grs_world.proofs.Common.{is_of, is_of_deck, is_sent, is_some, is_task, is_task-system, IsHistory, IsOpenBy}
use Rattle.grs_world.proofs.Common.{IsOutstanding, last_number, last_of, lines_of, List, list_all, list_any, list_of}
use Rattle.grs_world.proofs.Common.{Look, Mail, mine, names_of_deck, nat_le, no_truth, NodeState, None, none, not, one}
use Rattle.grs_world.proofs.Common.{Option, outstanding, Phase, record_of, refl, Release, replies_are_answers, reply_in}
use Rattle.grs_world.proofs.Common.{Req, Res, RunItem, same_task, same_task-exact, same_task-itself, Some, stand_apart}
use Rattle.grs_world.proofs.Common.{standing_of, StarPart, State, state_of, subst, sym, SysId, TaskId, TasksView}
use Rattle.grs_world.proofs.Common.{tell_all, tell_answer_any_ranked, tell_answer_ranked, tell_control, tell_untold}
use Rattle.grs_world.proofs.Common.{true, Want, ℕ}
use Rattle.star_client.specs.Client.{can_get, has_sent, is_awaited, is_code_of, deq_codes}
use Rattle.grs_known.specs.Known.{learns_item, Still, learns_control, is_answer_to}
use Rattle.grs_known.proofs.known.Blank.{no-answer, coming-same, coming-late}
use Rattle.grs_wire.specs.declared.medium.Mail.TheVariants.{Request}
use Rattle.grs_base.specs.Lists.{deq_code}
use Rattle.grs_base.specs.declared.decision.Standing.{Standing}
use Rattle.grs_world.proofs.system.AtNode.{opens_of}
use Rattle.grs_world.proofs.system.Puts.{home-task}
use Rattle.grs_world.proofs.star.Answering.{Taken, takes-control, takes-answer, others_of, without_asker, apart-filter}
use Rattle.grs_world.proofs.star.Answering.{mine-others, mine-none}
use Rattle.grs_world.proofs.star.Ghosts.{ghosted, IsAt, told-free}
use Rattle.grs_world.proofs.star.Named.{outstanding-named}
use Rattle.grs_world.proofs.star.OwnEvents.{Goes, late-in}
use Rattle.grs_world.proofs.star.Systems.{gives, gives_want, gives-none, is_plain_answer, any-answer, IsSystem, IsLate}
use Rattle.grs_world.proofs.star.Systems.{AllLate, is_late, news_of, late-none, late-one, here, behind-late, is_near}
use Rattle.grs_wire.specs.declared.request.Fixed.TheVariants as fixing

-- only the first of its requests is no longer in the inbox
pub took-request :
    (deck : Deck) (words : List ℕ) (T : List RunItem) (s : ℕ) (n : NodeState) (e : ℕ) (from : SysId) (q : Req)
    (ms : List Mail) (later : List RunItem) (out : List Req) (o : Option StarPart)
    → IsSystem deck words T s n (Request e from q ∷ ms) later out
    → IsSystem deck words T s (record n { star = o }) ms later out
took-request deck words T s n e from q ms later out o h = record {
  at = h.at;
  late = h.late;
  sent = h.sent;
  near = h.near;
  coming = h.coming;
  answered = h.answered;
  fits = h.fits.1;
}

-- who is among the requests that were sent stands as having sent
pub sent-among : (t : TaskId) (p : Phase) (qs : List Req) → are_sent t p qs ≡ true → is_among t (askers qs) ≡ true
    → is_sent p ≡ true
sent-among t p [] h e = absurd (cc)
sent-among t p (q ∷ qs) h e = go (same_task t q.task) h e (sent-among t p qs)
  where
    go : (b : Bool) → ((not b || is_sent p) && are_sent t p qs) ≡ true → (b || is_among t (askers qs)) ≡ true
        → (are_sent t p qs ≡ true → is_among t (askers qs) ≡ true → is_sent p ≡ true) → is_sent p ≡ true
    go true f g more = (and_parts (is_sent p) (are_sent t p qs) f).0
    go false f g more = more f g

one-same : (o p : Option RunItem) → one o ≡ one p → o ≡ p
one-same None None e = refl
one-same None (Some y) e = absurd (cc)
one-same (Some x) None e = absurd (cc)
one-same (Some x) (Some y) e = ap Some cc

module _ (deck : Deck) (words : List ℕ) (T : List RunItem) (right : IsHistory deck T) (s : ℕ) (n : NodeState)
    (ms : List Mail) (later : List RunItem) (out : List Req) where
  -- ---- control
  module _ (t : TaskId) (r : Res) (h : IsSystem deck words T s n (Granted t r ∷ ms) later out) where
    passed : (u : TaskId) → is_home_at deck s u ≡ true → Coming u (blank (is_late u later)) T (news_of ms)
    passed u home = go (same_task u t) refl
      where
        go : (b : Bool) → same_task u t ≡ b → Coming u (blank (is_late u later)) T (news_of ms)
        go true same =
            coming-same u (learns_control (blank (is_late u later)) r) (blank (is_late u later)) T (news_of ms) refl
            ((h.coming u home).0 same).1
        go false apart = (h.coming u home).1 apart

    went : (v : TasksView) (o : Option StarPart) → IsAt deck s T later out (record n { tasks = v; star = o })
        → IsSystem deck words T s (record n { tasks = v; star = o }) ms later out
    went v o at = record {
      at = at;
      late = h.late;
      sent = h.sent;
      near = h.near;
      coming = passed;
      answered = h.answered;
      fits = h.fits.1;
    }

    -- it has no effect
    pub strange-control : (o : Option StarPart) → IsSystem deck words T s (record n { star = o }) ms later out
    strange-control o = went n.tasks o h.at

    still : is_home_at deck s t ≡ true → (o : Option RunItem) → mine t later ≡ one o → Still r t T o
    still home o due =
        let k = here deck s T later out n h.at t home in
        let same : outstanding t (blank (is_late t later)) T ≡ o =
        ap (λ b. cond b (last_of (mine t T)) None) (sym (behind-late deck s T later out n h.at t home))
        ∙ one-same (outstanding t k.known T) o (sym k.due ∙ due) in
        subst (Still r t T) same ((h.coming t home).0 (same_task-itself t)).0

    pub took-control : is_of_deck deck t ≡ true → (o : Option StarPart)
        → Goes deck words T s (record n { tasks = tell_control n.tasks r t; star = o }) ms later out n.tasks.told
    unfolding tell_all tell_control
    took-control of_deck o = go (is_task n.tasks t) refl
      where
        go : (b : Bool) → is_task n.tasks t ≡ b
            → Goes deck words T s (record n { tasks = tell_control n.tasks r t; star = o }) ms later out n.tasks.told
        go true e =
            let home : is_home_at deck s t ≡ true =
            and_from (t.system.0 == s) (is_some (lines_of deck t))
            (eq-eqb t.system.0 s (sym (is_task-system n.tasks t e) ∙ h.at.good.system)) of_deck in
            let k : Taken deck s T later out n.tasks.told (tell_control n.tasks r t) =
            takes-control deck s T later out right n h.at t r of_deck (still home) in
            record {
              system =
                  went (tell_control n.tasks r t) o
                  (record { good = k.good; own = h.at.own; shared = refl; homes = h.at.homes; apart = h.at.apart });
              told = told-free deck s (out ++ []) (history T) n.tasks.told (tell_control n.tasks r t).told k.told;
            }
        go false e =
            let same : tell_control n.tasks r t ≡ n.tasks =
            ap (λ b. cond b (tell_untold n.tasks t r (record_of (state_of n.tasks t).records r)) n.tasks) e in
            subst (λ v. Goes deck words T s (record n { tasks = v; star = o }) ms later out n.tasks.told) (sym same)
            (record { system = went n.tasks o h.at; told = none })

  -- ---- an answer
  same_code-itself : (st : Standing) (have : Bool) → is_code_of (deq_codes have) (deq_code st have) ≡ true
  same_code-itself st have = grind arith

  gets : (S : State) (t : TaskId) (w : Want) → gives_want w ≡ true → can_get w (answer_to S t w) ≡ true
  gets S t (Enq r c ret full) e = absurd (cc)
  gets S t (Deq r have) e = same_code-itself (standing_of (list_of S r) t) have
  gets S t (Release r) e = refl
  gets S t (Look first count f) e = absurd (cc)

  among-others : (t u : TaskId) (qs : List Req) → same_task u t ≡ false
      → is_among u (askers (without_asker t qs)) ≡ is_among u (askers qs)
  among-others t u [] apart = refl
  among-others t u (q ∷ qs) apart = go (same_task t q.task) refl (among-others t u qs apart)
    where
      go : (b : Bool) → same_task t q.task ≡ b → is_among u (askers (without_asker t qs)) ≡ is_among u (askers qs)
          → is_among u (askers (cond (not b) (q ∷ without_asker t qs) (without_asker t qs)))
          ≡ (same_task u q.task || is_among u (askers qs))
      go true e more =
          more
          ∙ ap (λ b. b || is_among u (askers qs))
          (sym (subst (λ z. same_task u z ≡ false) (same_task-exact t q.task e) apart))
      go false e more = ap (λ b. same_task u q.task || b) more

  late-filter : (t : TaskId) (xs : List RunItem) → AllLate deck words s xs → AllLate deck words s (others_of t xs)
  late-filter t [] h = tt
  late-filter t (x ∷ xs) h = go (is_of t x.fixed) (late-filter t xs h.1)
    where
      go : (b : Bool) → AllLate deck words s (others_of t xs)
          → AllLate deck words s (cond (not b) (x ∷ others_of t xs) (others_of t xs))
      go true k = k
      go false k = (h.0, k)

  late-same : (u : TaskId) (xs ys : List RunItem) → mine u xs ≡ mine u ys → is_late u xs ≡ is_late u ys
  late-same u xs ys e = go (mine u ys) refl
    where
      go : (zs : List RunItem) → mine u ys ≡ zs → is_late u xs ≡ is_late u ys
      go [] f = late-none u xs (e ∙ f) ∙ sym (late-none u ys f)
      go (z ∷ zs) f = late-one u z zs xs (e ∙ f) ∙ sym (late-one u z zs ys f)

  module _ (t : TaskId) (answer : Answer) (rank : ℕ)
      (h : IsSystem deck words T s n (Answered t answer rank ∷ ms) later out) where
    -- nothing of another task is heard
    past_other : (u : TaskId) → is_home_at deck s u ≡ true → same_task u t ≡ false
        → Coming u (blank (is_late u later)) T (news_of ms)
    past_other u home apart = (h.coming u home).1 apart

    answered_other : (u : TaskId) (x : RunItem) → is_home_at deck s u ≡ true → same_task u t ≡ false
        → mine u later ≡ x ∷ [] → gives x.fixed ≡ true → list_any (is_plain_answer u) ms ≡ true
    answered_other u x home apart due gave =
        ap (λ b. (b && (rank == 0)) || list_any (is_plain_answer u) ms) (sym apart) ∙ h.answered u x home due gave

    -- it is of a task that isn't here
    pub unheard_away : is_home_at deck s t ≡ false → (o : Option StarPart)
        → IsSystem deck words T s (record n { star = o }) ms later out
    unheard_away away o = record {
      at = h.at;
      late = h.late;
      sent = h.sent;
      near = h.near;
      coming = λ u home. past_other u home (not_t u home);
      answered = λ u x home due gave. answered_other u x home (not_t u home) due gave;
      fits = h.fits.1;
    }
      where
        not_t : (u : TaskId) → is_home_at deck s u ≡ true → same_task u t ≡ false
        not_t u home =
            false_by (same_task u t)
            (λ e. no_truth (is_home_at deck s t) (ap (is_home_at deck s) (sym (same_task-exact u t e)) ∙ home) away)

    -- it is of a task that is here
    module _ (home : is_home_at deck s t ≡ true) where
      abbrev x : RunItem
      x = ((h.coming t home).0 (same_task-itself t)).0

      out_is : outstanding t (here deck s T later out n h.at t home).known T ≡ Some x
      out_is =
          ap (λ b. cond b (last_of (mine t T)) None) (behind-late deck s T later out n h.at t home)
          ∙ ((h.coming t home).0 (same_task-itself t)).1

      due : mine t later ≡ x ∷ []
      due = (here deck s T later out n h.at t home).due ∙ ap one out_is

      item : IsLate deck words s x
      item = late-in deck words s t x [] later due h.late

      -- the request that it answers
      pub request : (a : Asked) × ((state_of n.tasks t).outstanding ≡ Some a) × (x.fixed ≡ fixing.Asked a.req)
      request =
          go (state_of n.tasks t).outstanding refl (subst (IsOutstanding (state_of n.tasks t).outstanding) out_is
          (here deck s T later out n h.at t home).knows.request)
        where
          go : (o : Option Asked) → (state_of n.tasks t).outstanding ≡ o
              → IsOutstanding (state_of n.tasks t).outstanding (Some x)
              → (a : Asked) × ((state_of n.tasks t).outstanding ≡ Some a) × (x.fixed ≡ fixing.Asked a.req)
          go None e i = absurd (subst (λ o. IsOutstanding o (Some x)) e i)
          go (Some a) e i = (a, e, subst (λ o. IsOutstanding o (Some x)) e i)

      module _ (a : Asked) (is : (state_of n.tasks t).outstanding ≡ Some a) (fixed : x.fixed ≡ fixing.Asked a.req) where
        asker : a.req.task ≡ t
        asker =
            (subst (λ o.
            IsOpenBy deck.limit (home-task deck s (opens_of later out (ghosted n)) T n.tasks t h.at.good home).0 t
            (state_of n.tasks t) o)
            is (here deck s T later out n h.at t home).opened).0

        same_req : item.req ≡ a.req
        same_req = let e : fixing.Asked item.req ≡ fixing.Asked a.req = sym item.asked ∙ fixed in cc

        made : x.entries ≡ entries_for item.lists t a.req.want
        made =
            item.made
            ∙ (ap (λ (q : Req). entries_for item.lists q.task q.want) same_req
            ∙ ap (λ z. entries_for item.lists z a.req.want) asker)

        replies : answer ≡ answer_to item.lists t a.req.want
        replies =
            sym (((h.coming t home).0 (same_task-itself t)).2)
            ∙ (ap reply_in made ∙ replies_are_answers item.lists t a.req.want)

        -- it is heard: its item is learned
        pub heard : (o : Option StarPart)
            → Goes deck words T s (record n { tasks = tell_answer_ranked n.tasks t a answer rank; star = o }) ms
            (others_of t later) (without_asker t out) n.tasks.told
        heard o =
            subst (λ z.
            Goes deck words T s (record n { tasks = tell_answer_ranked n.tasks t a z rank; star = o }) ms
            (others_of t later) (without_asker t out) n.tasks.told)
            (sym replies) (record {
              system = record {
                at = record {
                  good = k.good;
                  own = h.at.own;
                  shared = refl;
                  homes =
                      ap (list_all (λ q. is_home_at deck s q.task)) (append-nil (without_asker t out))
                      ∙ all-filter (λ q. is_home_at deck s q.task) (λ q. not (same_task t q.task)) out
                      (sym (ap (list_all (λ q. is_home_at deck s q.task)) (append-nil out)) ∙ h.at.homes);
                  apart =
                      ap (λ qs. stand_apart (askers qs)) (append-nil (without_asker t out))
                      ∙ apart-filter (λ q. not (same_task t q.task)) out
                      (sym (ap (λ qs. stand_apart (askers qs)) (append-nil out)) ∙ h.at.apart);
                };
                late = late-filter t later h.late;
                sent = λ u none_sent. by_sent u none_sent (same_task u t) refl;
                near = all-filter (is_near deck words s) (λ q. not (same_task t q.task)) out h.near;
                coming = λ u home_u. by_coming u home_u (same_task u t) refl;
                answered = λ u y home_u due_u gave. by_answered u y home_u due_u gave (same_task u t) refl;
                fits = h.fits.1;
              };
              told = told-free deck s (without_asker t out ++ []) (history T) n.tasks.told _ k.told;
            })
          where
            k :
                Taken deck s T (others_of t later) (without_asker t out) n.tasks.told
                (tell_answer_ranked n.tasks t a (answer_to item.lists t a.req.want) rank)
            k =
                takes-answer deck s T later right out n h.at t
                (home-task deck s (opens_of later out (ghosted n)) T n.tasks t h.at.good home).0
                (home-task deck s (opens_of later out (ghosted n)) T n.tasks t h.at.good home).1 a is x item.lists made
                due rank

            by_sent : (u : TaskId) → is_among u (askers (without_asker t out)) ≡ false → (b : Bool) → same_task u t ≡ b
                → mine u (others_of t later) ≡ []
            by_sent u none_sent true same =
                subst (λ z. mine z (others_of t later) ≡ []) (sym (same_task-exact u t same)) (mine-none t later)
            by_sent u none_sent false apart =
                mine-others t u later apart ∙ h.sent u (sym (among-others t u out apart) ∙ none_sent)

            by_coming : (u : TaskId) → is_home_at deck s u ≡ true → (b : Bool) → same_task u t ≡ b
                → Coming u (blank (is_late u (others_of t later))) T (news_of ms)
            by_coming u home_u true same =
                subst (λ z. Coming z (blank (is_late z (others_of t later))) T (news_of ms))
                (sym (same_task-exact u t same))
                (coming-same t (learns_item (blank (is_late t later)) x) (blank (is_late t (others_of t later))) T
                (news_of ms) (sym (late-none t (others_of t later) (mine-none t later)))
                ((h.coming t home).0 (same_task-itself t)).3)
            by_coming u home_u false apart =
                subst (λ b. Coming u (blank b) T (news_of ms))
                (late-same u later (others_of t later) (sym (mine-others t u later apart))) (past_other u home_u apart)

            by_answered : (u : TaskId) (y : RunItem) → is_home_at deck s u ≡ true → mine u (others_of t later) ≡ y ∷ []
                → gives y.fixed ≡ true → (b : Bool) → same_task u t ≡ b → list_any (is_plain_answer u) ms ≡ true
            by_answered u y home_u due_u gave true same =
                absurd (let f : [] ≡ y ∷ [] =
                sym (mine-none t later)
                ∙ (ap (λ z. mine z (others_of t later)) (sym (same_task-exact u t same)) ∙ due_u) in
                cc)
            by_answered u y home_u due_u gave false apart =
                answered_other u y home_u apart (sym (mine-others t u later apart) ∙ due_u) gave

        -- one that isn't heard answers what gives nothing up
        must_hear : gives x.fixed ≡ true → has_effect n.tasks t answer rank ≡ true
        must_hear gave =
            and_from (has_sent n.tasks t)
            (nat_le rank last_number && is_awaited answer (state_of n.tasks t).outstanding)
            (and_from (is_task n.tasks t) (is_sent (state_of n.tasks t).phase) (h.at.good.here t home)
            (sent-among t (state_of n.tasks t).phase out (here deck s T later out n h.at t home).sent among))
            (and_from (nat_le rank last_number) (is_awaited answer (state_of n.tasks t).outstanding)
            (subst (λ z. nat_le z last_number ≡ true) (sym plain) refl)
            (ap (is_awaited answer) is
            ∙ (ap (can_get a.req.want) replies ∙ gets item.lists t a.req.want (sym (ap gives fixed) ∙ gave))))
          where
            among : is_among t (askers out) ≡ true
            among = go (is_among t (askers out)) refl
              where
                go : (b : Bool) → is_among t (askers out) ≡ b → b ≡ true
                go true e = refl
                go false e = absurd (let f : [] ≡ x ∷ [] = sym (h.sent t e) ∙ due in cc)

            plain : rank ≡ 0
            plain =
                go (rank == 0) refl (ap (λ b. (b && (rank == 0)) || list_any (is_plain_answer t) ms)
                (sym (same_task-itself t))
                ∙ h.answered t x home due gave)
              where
                go : (b : Bool) → (rank == 0) ≡ b → ((rank == 0) || list_any (is_plain_answer t) ms) ≡ true → rank ≡ 0
                go true e f = eqb-true rank 0 e
                go false e f =
                    no_truth (list_any (is_answer_to t) (news_of ms))
                    (any-answer t ms (ap (λ b. b || list_any (is_plain_answer t) ms) (sym e) ∙ f))
                    (no-answer t (learns_item (blank (is_late t later)) x) T (news_of ms) refl
                    ((h.coming t home).0 (same_task-itself t)).3)

        pub unheard : has_effect n.tasks t answer rank ≡ false → (o : Option StarPart)
            → IsSystem deck words T s (record n { star = o }) ms later out
        unheard no_effect o = record {
          at = h.at;
          late = h.late;
          sent = h.sent;
          near = h.near;
          coming = λ u home_u. by_coming u home_u (same_task u t) refl;
          answered = λ u y home_u due_u gave. by_answered u y home_u due_u gave (same_task u t) refl;
          fits = h.fits.1;
        }
          where
            keeps_all : gives x.fixed ≡ false
            keeps_all =
                false_by (gives x.fixed)
                (λ gave. no_truth (has_effect n.tasks t answer rank) (must_hear gave) no_effect)

            late_now : is_late t later ≡ true
            late_now = late-one t x [] later due

            by_coming : (u : TaskId) → is_home_at deck s u ≡ true → (b : Bool) → same_task u t ≡ b
                → Coming u (blank (is_late u later)) T (news_of ms)
            by_coming u home_u false apart = past_other u home_u apart
            by_coming u home_u true same =
                subst (λ z. Coming z (blank (is_late z later)) T (news_of ms))
                (sym (same_task-exact u t same)) (subst (λ b. Coming t (blank b) T (news_of ms)) (sym late_now)
                (coming-late t T x (news_of ms) (sym (ap (λ b. cond b (last_of (mine t T)) None) late_now)
                ∙ ((h.coming t home).0 (same_task-itself t)).1)
                (λ r. gives-none r x.fixed keeps_all)
                (no-answer t (learns_item (blank (is_late t later)) x) T (news_of ms) refl
                ((h.coming t home).0 (same_task-itself t)).3)
                (coming-same t (learns_item (blank (is_late t later)) x) (blank false) T (news_of ms) refl
                ((h.coming t home).0 (same_task-itself t)).3)))

            by_answered : (u : TaskId) (y : RunItem) → is_home_at deck s u ≡ true → mine u later ≡ y ∷ []
                → gives y.fixed ≡ true → (b : Bool) → same_task u t ≡ b → list_any (is_plain_answer u) ms ≡ true
            by_answered u y home_u due_u gave false apart = answered_other u y home_u apart due_u gave
            by_answered u y home_u due_u gave true same =
                let f : x ∷ [] ≡ y ∷ [] = sym due ∙ (ap (λ z. mine z later) (sym (same_task-exact u t same)) ∙ due_u) in
                let e : x ≡ y = cc in
                no_truth (gives x.fixed) (ap (λ (z : RunItem). gives z.fixed) e ∙ gave) keeps_all

    -- One that names what isn't of the deck is of no task that is here: what is answered these names tasks of the deck.
    pub not_here : is_for_deck deck (Answered t answer rank) ≡ false → is_home_at deck s t ≡ false
    not_here strange =
        false_by (is_home_at deck s t)
        (λ home.
        no_truth (is_for_deck deck (Answered t answer rank))
        (and_from (is_of_deck deck t) (names_of_deck deck answer)
        (and_parts (t.system.0 == s) (is_of_deck deck t) home).1 (named home))
        strange)
      where
        named : is_home_at deck s t ≡ true → names_of_deck deck answer ≡ true
        named home =
            let mail = (h.coming t home).0 (same_task-itself t) in
            ap (names_of_deck deck) (sym mail.2)
            ∙ outstanding-named deck T right t (blank (is_late t later)) mail.0 mail.1

    pub strange-answer : is_for_deck deck (Answered t answer rank) ≡ false → (o : Option StarPart)
        → IsSystem deck words T s (record n { star = o }) ms later out
    strange-answer strange o = unheard_away (not_here strange) o

    -- What taking the answer comes to: its item is learned, and its request is no longer open; or it has no effect.
    pub data TookAnswer (n' : NodeState) : Type 0 where
      learns : is_late t later ≡ true → Goes deck words T s n' ms (others_of t later) (without_asker t out) n.tasks.told
          → TookAnswer n'
      leaves : Goes deck words T s n' ms later out n.tasks.told → TookAnswer n'

    pub took-answer : is_of_deck deck t ≡ true → (o : Option StarPart)
        → TookAnswer (record n { tasks = after_mail n.tasks (Answered t answer rank); star = o })
    unfolding after_mail
    took-answer of_deck o = go (has_effect n.tasks t answer rank) refl (is_home_at deck s t) refl
      where
        stays : IsSystem deck words T s (record n { star = o }) ms later out → has_effect n.tasks t answer rank ≡ false
            → TookAnswer (record n {
              tasks =
                  cond (has_effect n.tasks t answer rank)
                  (tell_answer_any_ranked n.tasks t answer rank (state_of n.tasks t).outstanding) n.tasks;
              star = o;
            })
        stays k e =
            subst (λ b.
            TookAnswer (record n {
              tasks = cond b (tell_answer_any_ranked n.tasks t answer rank (state_of n.tasks t).outstanding) n.tasks;
              star = o;
            }))
            (sym e) (leaves (record { system = k; told = none }))

        at_home : has_effect n.tasks t answer rank ≡ true → is_home_at deck s t ≡ true
        at_home e =
            let both =
            and_parts (has_sent n.tasks t)
            (nat_le rank last_number && is_awaited answer (state_of n.tasks t).outstanding) e in
            let there = (and_parts (is_task n.tasks t) (is_sent (state_of n.tasks t).phase) both.0).0 in
            and_from (t.system.0 == s) (is_some (lines_of deck t))
            (eq-eqb t.system.0 s (sym (is_task-system n.tasks t there) ∙ h.at.good.system)) of_deck

        go : (b : Bool) → has_effect n.tasks t answer rank ≡ b → (d : Bool) → is_home_at deck s t ≡ d
            → TookAnswer (record n {
              tasks =
                  cond (has_effect n.tasks t answer rank)
                  (tell_answer_any_ranked n.tasks t answer rank (state_of n.tasks t).outstanding) n.tasks;
              star = o;
            })
        go true e d f =
            let home = at_home e in
            let r = request home in
            subst (λ b.
            TookAnswer (record n {
              tasks = cond b (tell_answer_any_ranked n.tasks t answer rank (state_of n.tasks t).outstanding) n.tasks;
              star = o;
            }))
            (sym e)
            (subst (λ z. TookAnswer (record n { tasks = tell_answer_any_ranked n.tasks t answer rank z; star = o }))
            (sym r.1) (learns (late-one t (x home) [] later (due home)) (heard home r.0 r.1 r.2 o)))
        go false e true f = let r = request f in stays (unheard f r.0 r.1 r.2 e o) e
        go false e false f = stays (unheard_away f o) e
