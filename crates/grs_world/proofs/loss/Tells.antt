-- What a system tells its own tasks when it loses others: each of them owns by the history, as long as the lists that
-- are left are the history's.
use Rattle.grs_world.proofs.Common.{[], ◌&&◌, ◌++◌, ◌==◌, ◌∙◌, ◌∷◌, ◌≡◌, Alike, and_from, ap, Deck, Elem, entry_of_res}
use Rattle.grs_world.proofs.Common.{false, gives_back, history, is_some, IsHistory, items_of, List, list_any, list_of}
use Rattle.grs_world.proofs.Common.{lists, Mail, manages, NodeState, none, Option, or-false, or_left, or_parts}
use Rattle.grs_world.proofs.Common.{or_right, owns, owns-has, plain, refl, Req, Res, RunItem, same_res, same_res-itself}
use Rattle.grs_world.proofs.Common.{same_task, same_task-exact, same_task-itself, Some, StarPart, State, subst, sym}
use Rattle.grs_world.proofs.Common.{SysId, TaskId, TasksView, tell_all, tell_control, tell_each, ToldLine, true, ℕ}
use Rattle.contention_mgr.specs.Loses.{gained}
use Rattle.grs_world.proofs.loss.Losing.{gains-own, is_in, lose_part, lose_parts, owns-losses, OwnsAt, tell_losses}
use Rattle.grs_world.proofs.star.Answering.{Taken, tells-owners}
use Rattle.grs_world.proofs.star.Ghosts.{told-free}
use Rattle.grs_world.proofs.star.Members.{has_manager, IsPart}
use Rattle.grs_world.proofs.star.OwnEvents.{Goes, late-calm}
use Rattle.grs_world.proofs.star.Systems.{IsSystem}
use Rattle.grs_world.proofs.star.Under.{entry-is, list-under, under, under-has}

-- ---- an owner by what a manager keeps owns by the history
pub record OwnsBy (deck : Deck) (words : List ℕ) (L : State) (s : ℕ) (r : Res) (t : TaskId) : Type 0 where
  pub own : owns (list_of L r) t ≡ true
  pub entry : ℕ
  pub of : entry_of_res deck.entries r ≡ Some entry
  pub managed : has_manager words entry s ≡ true

pub part-owns : (deck : Deck) (words : List ℕ) (L : State) (s : ℕ) (p : StarPart) → IsPart deck words L s p → (r : Res)
    (t : TaskId) → OwnsAt p.manager r t → OwnsBy deck words L s r t
part-owns deck words L s p fits r t h =
    let mine : manages p h.entry ≡ true = ap is_some h.at in
    let alike : Alike (plain h.managed.items) (under deck.entries h.entry L) =
    subst (λ o. Alike (plain (items_of o)) (under deck.entries h.entry L)) h.at (fits.lists h.entry mine) in
    let there : owns (list_of (under deck.entries h.entry L) r) t ≡ true =
    ap (λ (es : List Elem). owns es t) (sym (alike.lists r)) ∙ h.own in
    let within =
    under-has deck.entries h.entry L r t (owns-has (list_of (under deck.entries h.entry L) r) t there) in
    record {
      own = ap (λ (es : List Elem). owns es t) (sym (list-under deck.entries h.entry L r within)) ∙ there;
      entry = h.entry;
      of = entry-is h.entry (entry_of_res deck.entries r) within;
      managed = sym (fits.roles h.entry) ∙ mine;
    }

module _ (deck : Deck) (s : ℕ) (T later : List RunItem) (out : List Req) (right : IsHistory deck T) (T0 : List ToldLine)
  where
    -- who may be told
    abbrev MayTell : Res → TaskId → Type 0
    MayTell r t = (owns (list_of (lists T) r) t ≡ true) × (list_any (λ y. gives_back r y.fixed) later ≡ false)

    -- one task is told control
    tells-one : (v : TasksView) → Taken deck s T later out T0 v → (r : Res) (t : TaskId) → MayTell r t
        → Taken deck s T later out T0 (tell_control v r t)
    unfolding tell_all
    tells-one v k r t may =
        tells-owners deck s T later out right T0 v k r (t ∷ [])
        (λ u among.
        subst (λ z. owns (list_of (lists T) r) z ≡ true)
        (sym (same_task-exact u t (sym (or-false (same_task u t)) ∙ among))) may.0)
        may.1

    pub tells-each : (ps : List (TaskId × Res)) (v : TasksView) → Taken deck s T later out T0 v
        → ((r : Res) (t : TaskId) → list_any (λ p. same_task t p.0 && same_res r p.1) ps ≡ true → MayTell r t)
        → Taken deck s T later out T0 (tell_each v ps)
    unfolding tell_each
    tells-each [] v k may = k
    tells-each (o ∷ os) v k may =
        tells-each os (tell_control v o.1 o.0)
        (tells-one v k o.1 o.0 (may o.1 o.0
        (or_left (same_task o.0 o.0 && same_res o.1 o.1) (list_any (λ p. same_task o.0 p.0 && same_res o.1 p.1) os)
        (and_from (same_task o.0 o.0) (same_res o.1 o.1) (same_task-itself o.0) (same_res-itself o.1)))))
        (λ r t among.
        may r t
        (or_right (same_task t o.0 && same_res r o.1) (list_any (λ p. same_task t p.0 && same_res r p.1) os) among))

    -- systems are lost, one after the other, and none of them is this one
    pub tells-losses : (ss : List SysId) (p : StarPart) (v : TasksView) → Taken deck s T later out T0 v
        → p.manager.system.0 ≡ s → is_in s ss ≡ false
        → ((r : Res) (t : TaskId) → OwnsAt (lose_parts p ss).manager r t → MayTell r t)
        → Taken deck s T later out T0 (tell_losses v p ss)
    tells-losses [] p v k home apart may = k
    tells-losses (u ∷ us) p v k home apart may =
        let far = or_parts (u.0 == s) (is_in s us) apart in
        tells-losses us (lose_part p u) (tell_each v (gained p.manager u))
        (tells-each (gained p.manager u) v k (λ r t among.
        let z = gains-own p.manager u r t among in
        may r t (owns-losses (lose_part p u) us r t (ap (λ i. is_in i us) (sym z.0 ∙ home) ∙ far.1) z.1)))
        home far.1 may

-- ---- a system loses others, behind which its part is as it should be
pub system-loses : (deck : Deck) (words : List ℕ) (T : List RunItem) (s : ℕ) (n : NodeState) (ms : List Mail)
    (later : List RunItem) (out : List Req) → IsHistory deck T → IsSystem deck words T s n ms later out
    → (p : StarPart) (ss : List SysId) → p.manager.system.0 ≡ s → is_in s ss ≡ false
    → IsPart deck words (lists T) s (lose_parts p ss) → (o : Option StarPart) (known : ℕ) →
    Goes deck words T s (record n { tasks = tell_losses n.tasks p ss; star = o; known = known }) ms later out
    n.tasks.told
system-loses deck words T s n ms later out right h p ss home apart fits o known =
    let k : Taken deck s T later out n.tasks.told n.tasks = record { good = h.at.good; told = none } in
    let told =
    tells-losses deck s T later out right n.tasks.told ss p n.tasks k home apart (λ r t own.
    let z = part-owns deck words (lists T) s (lose_parts p ss) fits r t own in
    (z.own, late-calm deck words s r z.entry later z.of z.managed h.late)) in
    record {
      system = record {
        at = record { good = told.good; own = h.at.own; shared = refl; homes = h.at.homes; apart = h.at.apart };
        late = h.late;
        sent = h.sent;
        near = h.near;
        coming = h.coming;
        answered = h.answered;
        fits = h.fits;
      };
      told = told-free deck s (out ++ []) (history T) n.tasks.told (tell_losses n.tasks p ss).told told.told;
    }
