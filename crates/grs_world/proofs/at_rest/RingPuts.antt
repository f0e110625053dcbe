-- A system of the ring, by its own lists and its table, as it puts requests into the message and its desk is told.
use Rattle.grs_world.proofs.Common.{[], ◌++◌, ◌+◌, ◌||◌, ◌∙◌, ◌∷◌, ◌≡◌, all-behind, all-kept, all_sent, and_parts, ap}
use Rattle.grs_world.proofs.Common.{askers, Bool, Deck, desk_told, did-none, did-phase, false, is_among, is_home_at}
use Rattle.grs_world.proofs.Common.{is_sent, is_systems, is_task, is_task-telling, is_to_send, IsOurs, List, list_all}
use Rattle.grs_world.proofs.Common.{Matches, Meaning, no_truth, NodeState, or_left, or_right, put_in, refl, Req}
use Rattle.grs_world.proofs.Common.{RunItem, Said, same_task, same_task-exact, state_of, state_of-telling, subst, sym}
use Rattle.grs_world.proofs.Common.{take-append-drop, TaskId, TaskState, TasksView, telling, ToldLine, true, with_phase}
use Rattle.grs_world.proofs.Common.{ℕ}
use Rattle.std.specs.Prelude.{take, drop}
use Rattle.grs_world.proofs.at_rest.Events.{date-all_sent, date-telling}
use Rattle.grs_world.proofs.system.AtNode.{Seen}
use Rattle.grs_world.proofs.at_rest.Ring.{is_local, IsRead, ours-was, here-phase, other-phase, records-phase}
use Rattle.task_state.specs.declared.state.Phase.TheVariants as phases
use Rattle.grs_wire.specs.declared.told.ToldLine.TheVariants as told

-- ---- requests are put in
same-records : (qs : List Req) (v : TasksView) (t : TaskId)
    → (state_of (all_sent v qs) t).records ≡ (state_of v t).records
unfolding all_sent
same-records [] v t = refl
same-records (q ∷ qs) v t = same-records qs (with_phase v q.task phases.Sent) t ∙ records-phase v q.task phases.Sent t

here-sent : (qs : List Req) (v : TasksView) (t : TaskId) → is_task (all_sent v qs) t ≡ is_task v t
unfolding all_sent
here-sent [] v t = refl
here-sent (q ∷ qs) v t = here-sent qs (with_phase v q.task phases.Sent) t ∙ here-phase v q.task phases.Sent t

sent-among : (deck : Deck) (s : ℕ) (qs : List Req) (v : TasksView) → list_all (λ q. is_home_at deck s q.task) qs ≡ true
    → ((t : TaskId) → is_home_at deck s t ≡ true → is_task v t ≡ true) → (t : TaskId) (ls : List Meaning)
    → IsOurs deck s v t ls →
    is_sent (state_of (all_sent v qs) t).phase ≡ true
    → (is_sent (state_of v t).phase ≡ true → is_among t (askers qs) ≡ true) → is_among t (askers qs) ≡ true
unfolding all_sent
sent-among deck s [] v homes here t ls ours e k = k e
sent-among deck s (q ∷ qs) v homes here t ls ours e k =
    let both = and_parts (is_home_at deck s q.task) (list_all (λ z. is_home_at deck s z.task) qs) homes in
    let w : TasksView = with_phase v q.task phases.Sent in
    go both.0 (same_task t q.task) refl (λ m.
    sent-among deck s qs w both.1 (λ u home. here-phase v q.task phases.Sent u ∙ here u home) t ls
    (record { lines = ours.lines; home = ours.home; here = here-phase v q.task phases.Sent t ∙ ours.here }) e m)
  where
    go : is_home_at deck s q.task ≡ true → (b : Bool) → same_task t q.task ≡ b
        → ((is_sent (state_of (with_phase v q.task phases.Sent) t).phase ≡ true → is_among t (askers qs) ≡ true)
        → is_among t (askers qs) ≡ true)
        → (same_task t q.task || is_among t (askers qs)) ≡ true
    go home true f rest = or_left (same_task t q.task) (is_among t (askers qs)) f
    go home false f rest =
        or_right (same_task t q.task) (is_among t (askers qs))
        (rest (λ z.
        by_old (k (ap (λ (y : TaskState). is_sent y.phase)
        (sym (other-phase deck s v t q.task ls ours home (here q.task home) f))
        ∙ z))))
      where
        by_old : (same_task t q.task || is_among t (askers qs)) ≡ true → is_among t (askers qs) ≡ true
        by_old z = ap (λ c. c || is_among t (askers qs)) (sym f) ∙ z

-- who still waits to be put in isn't among them
left-among : (deck : Deck) (s : ℕ) (qs : List Req) (v : TasksView) → list_all (λ q. is_home_at deck s q.task) qs ≡ true
    → ((t : TaskId) → is_home_at deck s t ≡ true → is_task v t ≡ true) → (t : TaskId) (ls : List Meaning)
    → IsOurs deck s v t ls →
    is_to_send (state_of (all_sent v qs) t).phase ≡ true
    → (is_among t (askers qs) ≡ false) × (is_to_send (state_of v t).phase ≡ true)
unfolding all_sent
left-among deck s [] v homes here t ls ours e = (refl, e)
left-among deck s (q ∷ qs) v homes here t ls ours e =
    let both = and_parts (is_home_at deck s q.task) (list_all (λ z. is_home_at deck s z.task) qs) homes in
    go both.0 (same_task t q.task) refl (left-among deck s qs (with_phase v q.task phases.Sent) both.1
    (λ u home. here-phase v q.task phases.Sent u ∙ here u home) t ls
    (record { lines = ours.lines; home = ours.home; here = here-phase v q.task phases.Sent t ∙ ours.here }) e)
  where
    go : is_home_at deck s q.task ≡ true → (b : Bool) → same_task t q.task ≡ b
        → (is_among t (askers qs) ≡ false) × (is_to_send (state_of (with_phase v q.task phases.Sent) t).phase ≡ true)
        → ((same_task t q.task || is_among t (askers qs)) ≡ false) × (is_to_send (state_of v t).phase ≡ true)
    go home true f k = absurd (let one : t ≡ q.task = same_task-exact t q.task f in
        let sent_now : state_of (with_phase v q.task phases.Sent) q.task
        ≡ record (state_of v q.task) { phase = phases.Sent } =
        (did-phase v v q.task (state_of v q.task) v.told (here q.task home) (did-none v q.task) phases.Sent).state in
        no_truth (is_to_send phases.Sent) (ap (λ (y : TaskState). is_to_send y.phase)
        (sym (ap (state_of (with_phase v q.task phases.Sent)) one ∙ sent_now))
        ∙ k.1)
        refl)
    go home false f k = (
      ap (λ c. c || is_among t (askers qs)) f ∙ k.0,
      ap (λ (y : TaskState). is_to_send y.phase) (sym (other-phase deck s v t q.task ls ours home (here q.task home) f))
          ∙ k.1,
    )

among-parts : (t : TaskId) (xs ys : List Req) → is_among t (askers (xs ++ ys)) ≡ true → is_among t (askers xs) ≡ false
    → is_among t (askers ys) ≡ true
among-parts t [] ys h none = h
among-parts t (x ∷ xs) ys h none = go (same_task t x.task) h none (among-parts t xs ys)
  where
    go : (b : Bool) → (b || is_among t (askers (xs ++ ys))) ≡ true → (b || is_among t (askers xs)) ≡ false
        → (is_among t (askers (xs ++ ys)) ≡ true → is_among t (askers xs) ≡ false → is_among t (askers ys) ≡ true)
        → is_among t (askers ys) ≡ true
    go true k f more = absurd (cc)
    go false k f more = more k f

all-here : (deck : Deck) (s : ℕ) (qs : List Req) (v : TasksView) → list_all (λ q. is_home_at deck s q.task) qs ≡ true
    → ((t : TaskId) → is_home_at deck s t ≡ true → is_task v t ≡ true) → list_all (λ q. is_task v q.task) qs ≡ true
all-here deck s qs v homes here =
    all-kept (λ (q : Req). is_home_at deck s q.task) (λ q. is_task v q.task) (λ q home. here q.task home) qs homes

-- each request that waits to be put in is of a task of the system
pub box-here : (deck : Deck) (s : ℕ) (P before later : List RunItem) (out : List Req) (n : NodeState)
    → Seen deck s P before later out n → list_all (λ q. is_task n.tasks q.task) n.outbox ≡ true
box-here deck s P before later out n seen =
    all-here deck s n.outbox n.tasks (all-behind (λ (q : Req). is_home_at deck s q.task) out n.outbox seen.homes)
    seen.good.here

pub kept-put : (deck : Deck) (s : ℕ) (n : NodeState) (k : ℕ)
    → list_all (λ q. is_home_at deck s q.task) (take k n.outbox) ≡ true
    → ((t : TaskId) → is_home_at deck s t ≡ true → is_task n.tasks t ≡ true) → IsRead deck s n []
    → IsRead deck s (put_in n k).node (take k n.outbox)
unfolding put_in
kept-put deck s n k homes here h = record {
  own = λ t ls ours.
      subst (Matches is_local n.own t) (sym (same-records (take k n.outbox) n.tasks t)) (h.own t ls (was t ls ours));
  shared = λ t ls ours.
      subst (Matches is_systems n.shared t) (sym (same-records (take k n.outbox) n.tasks t))
      (h.shared t ls (was t ls ours));
  sent = λ t ls ours e.
      sent-among deck s (take k n.outbox) n.tasks homes here t ls (was t ls ours) e
      (λ f. absurd (no_one (h.sent t ls (was t ls ours) f)));
  boxed = λ t ls ours e. let left = left-among deck s (take k n.outbox) n.tasks homes here t ls (was t ls ours) e in
      among-parts t (take k n.outbox) (drop k n.outbox)
      (ap (λ qs. is_among t (askers qs)) (take-append-drop k n.outbox) ∙ h.boxed t ls (was t ls ours) left.1) left.0;
  date =
      date-all_sent true deck (take k n.outbox) n.tasks h.date (all-here deck s (take k n.outbox) n.tasks homes here);
}
  where
    was : (t : TaskId) (ls : List Meaning) → IsOurs deck s (all_sent n.tasks (take k n.outbox)) t ls
        → IsOurs deck s n.tasks t ls
    was = ours-was deck s n.tasks (all_sent n.tasks (take k n.outbox)) (here-sent (take k n.outbox) n.tasks)

    no_one : false ≡ true → ⊥
    no_one e = absurd (cc)

-- ---- its desk is told
pub desk-read : (deck : Deck) (s : ℕ) (n : NodeState) (said : Said) (qs : List Req) → IsRead deck s n qs
    → IsRead deck s (desk_told n said) qs
unfolding desk_told
desk-read deck s n said qs h = record {
  own = λ t ls o.
      subst (λ (y : TaskState). Matches is_local n.own t y.records) (sym (state_of-telling n.tasks t l))
      (h.own t ls (was t ls o));
  shared = λ t ls o.
      subst (λ (y : TaskState). Matches is_systems n.shared t y.records) (sym (state_of-telling n.tasks t l))
      (h.shared t ls (was t ls o));
  sent = λ t ls o e.
      h.sent t ls (was t ls o) (ap (λ (y : TaskState). is_sent y.phase) (sym (state_of-telling n.tasks t l)) ∙ e);
  boxed = λ t ls o e.
      h.boxed t ls (was t ls o) (ap (λ (y : TaskState). is_to_send y.phase) (sym (state_of-telling n.tasks t l)) ∙ e);
  date = date-telling true deck n.tasks l h.date;
}
  where
    l : ToldLine
    l = told.Desk (n.done + 1) said

    was : (t : TaskId) (ls : List Meaning) → IsOurs deck s (telling n.tasks (told.Desk (n.done + 1) said)) t ls
        → IsOurs deck s n.tasks t ls
    was t ls o = record { lines = o.lines; home = o.home; here = sym (is_task-telling n.tasks t l) ∙ o.here }

-- what it knows of removed systems says nothing of its tasks and its lists
pub known-read : (deck : Deck) (s : ℕ) (n : NodeState) (known : ℕ) (qs : List Req) → IsRead deck s n qs
    → IsRead deck s (record n { known = known }) qs
known-read deck s n known qs
    h = record { own = h.own; shared = h.shared; sent = h.sent; boxed = h.boxed; date = h.date }
