-- A system of a star that loses nobody knows all that was fixed of its tasks once it has taken the mail of its inbox,
-- where each item that is still to come has an answer there that has an effect.
use Rattle.grs_world.proofs.Common.{[], ◌&&◌, ◌==◌, ◌||◌, ◌∙◌, ◌∷◌, ◌≡◌, ◌≢◌, ◌⊎◌, after_mail, and-false, and_from}
use Rattle.grs_world.proofs.Common.{and_parts, Answer, Answered, ap, Asked, blank, Bool, cond, Deck, eq-eqb, eqb-false}
use Rattle.grs_world.proofs.Common.{eqb-true, false, false_by, finish, finish_call, finish_star, fixing_none, Granted}
use Rattle.grs_world.proofs.Common.{has_effect, has_res, has_task, inl, inr, is_for_deck, is_home_at, is_of_deck}
use Rattle.grs_world.proofs.Common.{is_sent, is_some, is_systems, is_task, is_task-system, IsHistory, last_number}
use Rattle.grs_world.proofs.Common.{lines_of, List, list_any, list_of, lists, Mail, mine, names_of_deck, nat_le}
use Rattle.grs_world.proofs.Common.{no_truth, NodeState, None, Notice, one, Option, outstanding, Part, refl, Req, Res}
use Rattle.grs_world.proofs.Common.{RunItem, same_place, same_task, same_task-exact, same_task-itself, Some, StarPart}
use Rattle.grs_world.proofs.Common.{StarStep, state_of, subst, sym, SysId, take_mail, TaskId, TasksView}
use Rattle.grs_world.proofs.Common.{tell_answer_any_ranked, tell_answer_ranked, tell_control, took_mail, true, ℕ}
use Rattle.star_client.specs.Client.{can_get, has_sent, is_awaited}
use Rattle.grs_known.specs.Known.{learns_item}
use Rattle.grs_known.proofs.known.Blank.{no-answer}
use Rattle.grs_wire.specs.declared.medium.Mail.TheVariants.{Request}
use Rattle.grs_world.proofs.star.Answering.{mine-none, mine-others, others_of, without_asker}
use Rattle.grs_world.proofs.star.Heard.{is_timely}
use Rattle.grs_world.proofs.star.Mailed.{heard, not_here, request, strange-answer, strange-control, took-control}
use Rattle.grs_world.proofs.star.Mailed.{took-request, unheard, unheard_away}
use Rattle.grs_world.proofs.star.Systems.{IsSystem, here, is_late, news_of, ours}
use Rattle.grs_world.proofs.star.hearing.Elements.{IsDueOn, answer-awaited, recorded-or-due}
use Rattle.grs_world.proofs.star.hearing.Mails.{answers, timely-other, untimely}
use Rattle.grs_world.proofs.star.hearing.Gets.{gets}
use Rattle.grs_world.proofs.star.ranks.Shows.{Shows, comes-behind, comes_with, shows-answered, shows-granted}
use Rattle.grs_world.proofs.star.ranks.Shows.{shows-other}
use Rattle.grs_world.specs.Kept.{taking}
use Rattle.grs_wire.specs.declared.deck.Choice.TheVariants as choices
use Rattle.grs_wire.specs.declared.medium.Reply.TheVariants as replies

-- ---- one mail
-- what a system is once it has taken a mail
abbrev pub with_step : NodeState → StarStep → NodeState
with_step n x = record n { tasks = x.tasks; star = Some x.part }

pub taken-node : (deck : Deck) (n : NodeState) (p : StarPart) (mail : Mail) → n.star ≡ Some p
    → (finish deck n choices.Take (Some (replies.Taken mail))).node
    ≡ record n {
      tasks = (take_mail deck n.known n.tasks p mail).tasks;
      star = Some (take_mail deck n.known n.tasks p mail).part;
    }
unfolding finish finish_call finish_star
taken-node deck n p mail star = ap (λ o. (finish_star deck n o choices.Take (replies.Taken mail)).node) star

module _ (deck : Deck) (known : ℕ) (v : TasksView) (p : StarPart) where
  by-deck : (b : Bool) (x : StarStep) → (cond b x (fixing_none v p)).tasks ≡ cond b x.tasks v
  by-deck true x = refl
  by-deck false x = refl

  pub request-tasks : (e : ℕ) (from : SysId) (q : Req) → (take_mail deck known v p (Request e from q)).tasks ≡ v
  unfolding took_mail
  request-tasks e from q = go (is_for_deck deck (Request e from q))
    where
      go : (b : Bool) → (cond b (took_mail deck known v p (Request e from q)) (fixing_none v p)).tasks ≡ v
      go true = refl
      go false = refl

  pub control-tasks : (t : TaskId) (r : Res)
      → (take_mail deck known v p (Granted t r)).tasks ≡ cond (is_of_deck deck t) (tell_control v r t) v
  unfolding took_mail after_mail
  control-tasks t r = by-deck (is_of_deck deck t) (fixing_none (tell_control v r t) p)

  pub answer-tasks : (t : TaskId) (answer : Answer) (rank : ℕ)
      → (take_mail deck known v p (Answered t answer rank)).tasks
      ≡ cond (is_for_deck deck (Answered t answer rank)) (after_mail v (Answered t answer rank)) v
  unfolding took_mail
  answer-tasks t answer rank =
      by-deck (is_for_deck deck (Answered t answer rank)) (fixing_none (after_mail v (Answered t answer rank)) p)

-- an answer that has an effect, and one that has none
heard-tasks : (v : TasksView) (t : TaskId) (answer : Answer) (rank : ℕ) (b : Bool) → has_effect v t answer rank ≡ b
    → after_mail v (Answered t answer rank)
    ≡ cond b (tell_answer_any_ranked v t answer rank (state_of v t).outstanding) v
unfolding after_mail
heard-tasks v t answer rank b is =
    ap (λ d. cond d (tell_answer_any_ranked v t answer rank (state_of v t).outstanding) v) is

-- ---- all mail
module _ (deck : Deck) (words : List ℕ) (T : List RunItem) (right : IsHistory deck T) (s : ℕ) where
  -- each item that is still to come has an answer that has an effect
  abbrev pub AllTimely : List RunItem → List Mail → Type 0
  AllTimely later ms =
      (t : TaskId) → is_home_at deck s t ≡ true → (x : RunItem) → mine t later ≡ x ∷ []
      → list_any (is_timely t) ms ≡ true

  -- Nothing is still to come.
  pub record Caught (n : NodeState) : Type 0 where
    pub later : List RunItem
    pub out : List Req
    pub system : IsSystem deck words T s n [] later out
    pub idle : (t : TaskId) → is_home_at deck s t ≡ true → mine t later ≡ []

  module _ (n : NodeState) (ms : List Mail) (later : List RunItem) (out : List Req) where
    -- an answer in time has an effect
    effect : (t : TaskId) (answer : Answer) (rank : ℕ)
        → IsSystem deck words T s n (Answered t answer rank ∷ ms) later out → is_home_at deck s t ≡ true
        → nat_le rank last_number ≡ true → has_effect n.tasks t answer rank ≡ true
    effect t answer rank h home low =
        let z = answer-awaited deck words T right s n t answer rank ms later out h home in
        and_from (has_sent n.tasks t) (nat_le rank last_number && is_awaited answer (state_of n.tasks t).outstanding)
        (and_from (is_task n.tasks t) (is_sent (state_of n.tasks t).phase) (h.at.good.here t home) z.sent)
        (and_from (nat_le rank last_number) (is_awaited answer (state_of n.tasks t).outstanding) low
        (ap (is_awaited answer) z.is
        ∙ (ap (can_get z.asked.req.want) z.reply ∙ gets z.lists z.apart t z.asked.req.want)))

    -- of whom an answer has an effect is of the system
    at-home : (t : TaskId) (answer : Answer) (rank : ℕ)
        → IsSystem deck words T s n (Answered t answer rank ∷ ms) later out → is_of_deck deck t ≡ true
        → has_effect n.tasks t answer rank ≡ true → is_home_at deck s t ≡ true
    at-home t answer rank h of_deck e =
        let sent =
        (and_parts (has_sent n.tasks t)
        (nat_le rank last_number && is_awaited answer (state_of n.tasks t).outstanding) e).0 in
        let there = (and_parts (is_task n.tasks t) (is_sent (state_of n.tasks t).phase) sent).0 in
        and_from (t.system.0 == s) (is_some (lines_of deck t))
        (eq-eqb t.system.0 s (sym (is_task-system n.tasks t there) ∙ h.at.good.system)) of_deck

    -- an answer to another task says nothing of what is still to come of a task
    away-timely : (t : TaskId) (answer : Answer) (rank : ℕ) → is_home_at deck s t ≡ false
        → AllTimely later (Answered t answer rank ∷ ms) → AllTimely later ms
    away-timely t answer rank away timely u home x due =
        timely-other u t answer rank ms
        (false_by (same_task u t)
        (λ e. no_truth (is_home_at deck s t) (ap (is_home_at deck s) (sym (same_task-exact u t e)) ∙ home) away))
        (timely u home x due)

    -- nor does one out of time
    late-timely : (t : TaskId) (answer : Answer) (rank : ℕ) → nat_le rank last_number ≡ false
        → AllTimely later (Answered t answer rank ∷ ms) → AllTimely later ms
    late-timely t answer rank high timely u home x due =
        sym (ap (λ b. b || list_any (is_timely u) ms)
        (ap (λ b. same_task u t && b) high ∙ and-false (same_task u t)))
        ∙ timely u home x due

    -- one that is heard is the answer to what was still to come of its task
    heard-timely : (t : TaskId) (answer : Answer) (rank : ℕ) → AllTimely later (Answered t answer rank ∷ ms)
        → AllTimely (others_of t later) ms
    heard-timely t answer rank timely u home x due = go (same_task u t) refl
      where
        go : (b : Bool) → same_task u t ≡ b → list_any (is_timely u) ms ≡ true
        go true same =
            absurd (let none : [] ≡ x ∷ [] =
            sym (mine-none t later) ∙ (ap (λ z. mine z (others_of t later)) (sym (same_task-exact u t same)) ∙ due) in
            cc)
        go false apart =
            timely-other u t answer rank ms apart (timely u home x (sym (mine-others t u later apart) ∙ due))

  -- ---- ranks
  -- from one state of the tasks and mail to another, what is shown of ranks stays
  abbrev pub KeepsShown : TasksView → List Mail → TasksView → List Mail → Type 0
  KeepsShown v ms w rest =
      (u : TaskId) (r : Res) (k : ℕ) → is_home_at deck s u ≡ true → is_systems r ≡ true
      → has_task (list_of (lists T) r) u ≡ true → Shows r u k (state_of v u).records ms
      → Shows r u k (state_of w u).records rest

  module _ (n : NodeState) (t : TaskId) (answer : Answer) (rank : ℕ) (ms : List Mail) (later : List RunItem)
      (out : List Req) (h : IsSystem deck words T s n (Answered t answer rank ∷ ms) later out) where
    -- behind an answer no other one comes to its task
    only-answer : is_home_at deck s t ≡ true → answers t ms ≡ false
    only-answer home =
        let z = (h.coming t home).0 (same_task-itself t) in
        no-answer t (learns_item (blank (is_late t later)) z.0) T (news_of ms) refl z.3

    -- two tasks of the system are one, or stand at two places
    place : (u : TaskId) → is_home_at deck s t ≡ true → is_home_at deck s u ≡ true → (u ≡ t) ⊎ (u.task ≢ t.task)
    place u home own = go (u.task == t.task) refl
      where
        go : (b : Bool) → (u.task == t.task) ≡ b → (u ≡ t) ⊎ (u.task ≢ t.task)
        go false e = inr (eqb-false u.task t.task e)
        go true e =
            let x = ours deck s T later out n h.at u own in
            let y = ours deck s T later out n h.at t home in
            inl (same_task-exact u t (same_place deck s n.tasks u t x.0 y.0 x.1 y.1 (eqb-true u.task t.task e)))

    -- an answer to a task that isn't the system's
    keeps-away : is_home_at deck s t ≡ false → KeepsShown n.tasks (Answered t answer rank ∷ ms) n.tasks ms
    keeps-away away u r k home wide stands shown = record {
      ranked = shown.ranked;
      comes = λ none.
          sym (comes-behind u ms t answer rank
          (false_by (same_task u t) (λ e.
          no_truth (is_home_at deck s t) (ap (is_home_at deck s) (sym (same_task-exact u t e)) ∙ home) away)))
          ∙ shown.comes none;
    }

    -- one that comes out of time, where each that is awaited comes in time
    keeps-late : AllTimely later (Answered t answer rank ∷ ms) → nat_le rank last_number ≡ false
        → KeepsShown n.tasks (Answered t answer rank ∷ ms) n.tasks ms
    keeps-late timely high u r k home wide stands shown = record {
      ranked = shown.ranked;
      comes = λ none. go none (same_task u t) refl;
    }
      where
        lost : has_res r (state_of n.tasks u).records ≡ false → u ≡ t
            → (has_res r (state_of n.tasks u).records ≡ true) ⊎ IsDueOn deck words s n later u r → ⊥
        lost none same (inl e) = no_truth (has_res r (state_of n.tasks u).records) e none
        lost none same (inr d) =
            no_truth (list_any (is_timely u) ms)
            (late-timely n ms later out t answer rank high timely u home d.item d.due)
            (ap (λ z. list_any (is_timely z) ms) same
            ∙ untimely t ms (only-answer (ap (is_home_at deck s) (sym same) ∙ home)))

        go : has_res r (state_of n.tasks u).records ≡ false → (b : Bool) → same_task u t ≡ b → comes_with u ms ≡ Some k
        go none false e = sym (comes-behind u ms t answer rank e) ∙ shown.comes none
        go none true e =
            absurd (lost none (same_task-exact u t e)
            (recorded-or-due deck words T right s n (Answered t answer rank ∷ ms) later out h u home r stands))

    -- one that is heard
    module _ (a : Asked) (home : is_home_at deck s t ≡ true) (o : Option StarPart) (out' : List Req)
        (after :
        IsSystem deck words T s (record n { tasks = tell_answer_ranked n.tasks t a answer rank; star = o }) ms
        (others_of t later) out') where
      abbrev told_tasks : TasksView
      told_tasks = tell_answer_ranked n.tasks t a answer rank

      recorded : (r : Res) → has_task (list_of (lists T) r) t ≡ true
          → has_res r (state_of (tell_answer_ranked n.tasks t a answer rank) t).records ≡ true
      recorded r stands =
          go (recorded-or-due deck words T right s
          (record n { tasks = tell_answer_ranked n.tasks t a answer rank; star = o }) ms (others_of t later) out' after
          t
          home r stands)
        where
          go : (has_res r (state_of told_tasks t).records ≡ true)
              ⊎ IsDueOn deck words s (record n { tasks = tell_answer_ranked n.tasks t a answer rank; star = o })
              (others_of t later) t r
              → has_res r (state_of told_tasks t).records ≡ true
          go (inl e) = e
          go (inr d) = absurd (let none : [] ≡ d.item ∷ [] = sym (mine-none t later) ∙ d.due in cc)

      keeps-heard : KeepsShown n.tasks (Answered t answer rank ∷ ms) told_tasks ms
      keeps-heard u r k own wide stands shown = go (place u home own)
        where
          go : (u ≡ t) ⊎ (u.task ≢ t.task) → Shows r u k (state_of told_tasks u).records ms
          go (inr ne) =
              shows-other n.tasks r u k ms t answer rank
              (false_by (same_task u t) (λ e. absurd (ne (ap (λ (y : TaskId). y.task) (same_task-exact u t e))))) ne
              (h.at.good.here t home) a shown
          go (inl same) =
              subst (λ (z : TaskId). Shows r z k (state_of told_tasks z).records ms) (sym same)
              (shows-answered n.tasks r t k ms answer rank (h.at.good.here t home) a
              (recorded r (ap (has_task (list_of (lists T) r)) (sym same) ∙ stands))
              (subst (λ (z : TaskId). Shows r z k (state_of n.tasks z).records (Answered t answer rank ∷ ms)) same
              shown))

  -- what a system comes to by these mails: it knows all, and shows the ranks that it showed with them
  abbrev pub CaughtBy : NodeState → List Mail → Type 0
  CaughtBy n ms = Caught (taking deck n ms) × KeepsShown n.tasks ms (taking deck n ms).tasks []

  -- what it comes to behind these mails
  abbrev Comes : List Mail → Type 0
  Comes ms =
      (n : NodeState) (p : StarPart) → n.star ≡ Some p → (later : List RunItem) (out : List Req)
      → IsSystem deck words T s n ms later out → AllTimely later ms → CaughtBy n ms

  -- one mail in front of them
  module _ (ms : List Mail) (more : Comes ms) (n : NodeState) (p : StarPart) (star : n.star ≡ Some p)
      (later : List RunItem) (out : List Req) where
    -- with these tasks it goes on
    goes-on : (mail : Mail) (v : TasksView) → (take_mail deck n.known n.tasks p mail).tasks ≡ v
        → (later' : List RunItem) (out' : List Req) →
        IsSystem deck words T s (record n { tasks = v; star = Some (take_mail deck n.known n.tasks p mail).part }) ms
        later' out'
        → AllTimely later' ms → KeepsShown n.tasks (mail ∷ ms) v ms → CaughtBy n (mail ∷ ms)
    goes-on mail v is later' out' k timely keeps =
        let next : NodeState =
        record n {
          tasks = (take_mail deck n.known n.tasks p mail).tasks;
          star = Some (take_mail deck n.known n.tasks p mail).part;
        } in
        let z : CaughtBy next ms =
        more next (take_mail deck n.known n.tasks p mail).part refl later' out'
        (subst (λ z.
        IsSystem deck words T s (record n { tasks = z; star = Some (take_mail deck n.known n.tasks p mail).part }) ms
        later' out')
        (sym is) k)
        timely in
        let same : taking deck next ms ≡ taking deck n (mail ∷ ms) =
        sym (ap (λ x. taking deck x ms) (taken-node deck n p mail star)) in (
          subst Caught same z.0,
          λ u r i home wide stands shown.
              subst (λ (x : NodeState). Shows r u i (state_of x.tasks u).records []) same
              (z.1 u r i home wide stands
              (subst (λ (x : TasksView). Shows r u i (state_of x u).records ms) (sym is)
              (keeps u r i home wide stands shown))),
        )

    by-request : (e : ℕ) (from : SysId) (q : Req) → IsSystem deck words T s n (Request e from q ∷ ms) later out
        → AllTimely later (Request e from q ∷ ms) → CaughtBy n (Request e from q ∷ ms)
    by-request e from q h timely =
        goes-on (Request e from q) n.tasks (request-tasks deck n.known n.tasks p e from q) later out
        (took-request deck words T s n e from q ms later out
        (Some (take_mail deck n.known n.tasks p (Request e from q)).part) h)
        timely (λ u r k home wide stands shown. record { ranked = shown.ranked; comes = shown.comes })

    by-control : (t : TaskId) (r : Res) → IsSystem deck words T s n (Granted t r ∷ ms) later out
        → AllTimely later (Granted t r ∷ ms) → CaughtBy n (Granted t r ∷ ms)
    by-control t r h timely =
        goes-on (Granted t r) (cond (is_of_deck deck t) (tell_control n.tasks r t) n.tasks)
        (control-tasks deck n.known n.tasks p t r) later out (go (is_of_deck deck t) refl) timely
        (keeps (is_of_deck deck t))
      where
        keeps : (b : Bool) → KeepsShown n.tasks (Granted t r ∷ ms) (cond b (tell_control n.tasks r t) n.tasks) ms
        keeps true u q k home wide stands shown = shows-granted n.tasks q u k ms t r wide shown
        keeps false u q k home wide stands shown = record { ranked = shown.ranked; comes = shown.comes }

        go : (b : Bool) → is_of_deck deck t ≡ b →
            IsSystem deck words T s (record n {
              tasks = cond b (tell_control n.tasks r t) n.tasks;
              star = Some (take_mail deck n.known n.tasks p (Granted t r)).part;
            })
            ms later out
        go true of_deck =
            (took-control deck words T right s n ms later out t r h of_deck
            (Some (take_mail deck n.known n.tasks p (Granted t r)).part)).system
        go false strange =
            strange-control deck words T right s n ms later out t r h
            (Some (take_mail deck n.known n.tasks p (Granted t r)).part)

    module _ (t : TaskId) (answer : Answer) (rank : ℕ)
        (h : IsSystem deck words T s n (Answered t answer rank ∷ ms) later out)
        (timely : AllTimely later (Answered t answer rank ∷ ms)) where
      abbrev now : Option StarPart
      now = Some (take_mail deck n.known n.tasks p (Answered t answer rank)).part

      tasks-by : (b : Bool) → is_for_deck deck (Answered t answer rank) ≡ b
          → (take_mail deck n.known n.tasks p (Answered t answer rank)).tasks
          ≡ cond b (after_mail n.tasks (Answered t answer rank)) n.tasks
      tasks-by b is =
          answer-tasks deck n.known n.tasks p t answer rank
          ∙ ap (λ d. cond d (after_mail n.tasks (Answered t answer rank)) n.tasks) is

      -- it has no effect
      by-home : (b : Bool) → is_home_at deck s t ≡ b → has_effect n.tasks t answer rank ≡ false
          → (take_mail deck n.known n.tasks p (Answered t answer rank)).tasks ≡ n.tasks
          → CaughtBy n (Answered t answer rank ∷ ms)
      by-home true home silent same =
          let r = request deck words T right s n ms later out t answer rank h home in
          let high : nat_le rank last_number ≡ false = false_by (nat_le rank last_number)
          (λ low.
          no_truth (has_effect n.tasks t answer rank) (effect n ms later out t answer rank h home low) silent) in
          goes-on (Answered t answer rank) n.tasks same later out
          (unheard deck words T right s n ms later out t answer rank h home r.0 r.1 r.2 silent now)
          (late-timely n ms later out t answer rank high timely)
          (keeps-late n t answer rank ms later out h timely high)
      by-home false away silent same =
          goes-on (Answered t answer rank) n.tasks same later out
          (unheard_away deck words T right s n ms later out t answer rank h away now)
          (away-timely n ms later out t answer rank away timely) (keeps-away n t answer rank ms later out h away)

      by-effect : (b : Bool) → has_effect n.tasks t answer rank ≡ b → is_of_deck deck t ≡ true
          → is_for_deck deck (Answered t answer rank) ≡ true → CaughtBy n (Answered t answer rank ∷ ms)
      by-effect true hears of_deck for_deck =
          let home = at-home n ms later out t answer rank h of_deck hears in
          let r = request deck words T right s n ms later out t answer rank h home in
          goes-on (Answered t answer rank) (tell_answer_ranked n.tasks t r.0 answer rank)
          (tasks-by true for_deck
          ∙ (heard-tasks n.tasks t answer rank true hears
          ∙ ap (λ o. tell_answer_any_ranked n.tasks t answer rank o) r.1))
          (others_of t later) (without_asker t out)
          (heard deck words T right s n ms later out t answer rank h home r.0 r.1 r.2 now).system
          (heard-timely n ms later out t answer rank timely)
          (keeps-heard n t answer rank ms later out h r.0 home now (without_asker t out)
          (heard deck words T right s n ms later out t answer rank h home r.0 r.1 r.2 now).system)
      by-effect false silent of_deck for_deck =
          by-home (is_home_at deck s t) refl silent
          (tasks-by true for_deck ∙ heard-tasks n.tasks t answer rank false silent)

      by-answer : (b : Bool) → is_for_deck deck (Answered t answer rank) ≡ b
          → CaughtBy n (Answered t answer rank ∷ ms)
      by-answer true for_deck =
          by-effect (has_effect n.tasks t answer rank) refl
          (and_parts (is_of_deck deck t) (names_of_deck deck answer) for_deck).0 for_deck
      by-answer false strange =
          goes-on (Answered t answer rank) n.tasks (tasks-by false strange) later out
          (strange-answer deck words T right s n ms later out t answer rank h strange now)
          (away-timely n ms later out t answer rank
          (not_here deck words T right s n ms later out t answer rank h strange) timely)
          (keeps-away n t answer rank ms later out h
          (not_here deck words T right s n ms later out t answer rank h strange))

  -- no mail is left
  by-none : (n : NodeState) (later : List RunItem) (out : List Req) → IsSystem deck words T s n [] later out
      → AllTimely later [] → Caught n
  by-none n later out h timely = record {
    later = later;
    out = out;
    system = h;
    idle = λ t home. go t home (outstanding t (here deck s T later out n h.at t home).known T) refl;
  }
    where
      go : (t : TaskId) (home : is_home_at deck s t ≡ true) (o : Option RunItem)
          → outstanding t (here deck s T later out n h.at t home).known T ≡ o → mine t later ≡ []
      go t home None e = (here deck s T later out n h.at t home).due ∙ ap one e
      go t home (Some x) e =
          absurd (let f : list_any (is_timely t) [] ≡ true =
          timely t home x ((here deck s T later out n h.at t home).due ∙ ap one e) in
          cc)

  pub caught-up : (ms : List Mail) → Comes ms
  caught-up [] n p star later out h timely =
      (by-none n later out h timely, λ u r k home wide stands shown. shown)
  caught-up (Request e from q ∷ ms) n p star later out h timely =
      by-request ms (caught-up ms) n p star later out e from q h timely
  caught-up (Granted t r ∷ ms) n p star later out h timely =
      by-control ms (caught-up ms) n p star later out t r h timely
  caught-up (Answered t answer rank ∷ ms) n p star later out h timely =
      by-answer ms (caught-up ms) n p star later out t answer rank h timely
      (is_for_deck deck (Answered t answer rank)) refl
  caught-up (Notice target moved ∷ ms) n p star later out h timely = absurd h.fits.0
  caught-up (Part e from records ∷ ms) n p star later out h timely = absurd h.fits.0
