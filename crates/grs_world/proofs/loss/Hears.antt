-- What a system's own tasks come to by its losses: they lose nothing, and who comes to own by what is left of the lists
-- is marked, where its element is on record.
use Rattle.grs_world.proofs.Common.{[], ◌&&◌, ◌==◌, ◌||◌, ◌∙◌, ◌∷◌, ◌≡◌, and_from, and_parts, ap, Bool, Deck, Elem}
use Rattle.grs_world.proofs.Common.{entry_of_res, false, has_res, is_marked, is_systems, is_task, items_of, kept_at}
use Rattle.grs_world.proofs.Common.{kept_for, length, List, list_any, list_of, Managed, managed_of, no_truth, None, not}
use Rattle.grs_world.proofs.Common.{Option, or_left, or_right, owns, plain, refl, remove_state, Res, same_res}
use Rattle.grs_world.proofs.Common.{same_res-exact, same_task, same_task-exact, Some, StarPart, State, state_of, subst}
use Rattle.grs_world.proofs.Common.{suc, sym, SysId, TaskId, TasksView, tell_control, tell_each, true, zero, ℕ}
use Rattle.contention_mgr.proofs.GainLemmas.{gained_are_freed}
use Rattle.contention_mgr.specs.Laws.{owns_by}
use Rattle.contention_mgr.specs.LoseLaws.{is_freed}
use Rattle.contention_mgr.specs.Loses.{gained}
use Rattle.grs_world.proofs.at_rest.Steps.{AllDate}
use Rattle.grs_world.proofs.at_rest.StarTasks.{Keeps, keeps-control, keeps-none, keeps-then}
use Rattle.grs_base.proofs.ListLaws.{owns-filter}
use Rattle.grs_base.specs.State.{is_of_other}
use Rattle.grs_world.proofs.loss.Losing.{filter-both, is_in, left_of, list-lost, lose_part, lose_parts, lost-count}
use Rattle.grs_world.proofs.loss.Losing.{plain-lost, tell_losses}
use Rattle.grs_world.proofs.star.hearing.Gentle.{control-marks, Gentle, gentle-control, gentle-none, gentle-then}

-- the lists of a resource's entry, as a manager keeps them
abbrev pub lists_by : StarPart → Res → State
lists_by p r = plain (items_of (managed_of p.manager r))

-- whether an own task comes to own a resource by what a part is left with once it has lost these
abbrev pub gets : StarPart → List SysId → Res → TaskId → Bool
gets p ss r t =
    (p.manager.system.0 == t.system.0)
    && (owns_by (lists_by (lose_parts p ss) r) r t && not (owns_by (lists_by p r) r t))

-- who owns by what fewer leave owns by what one more leaves that isn't its system
pub owns-more : (p : StarPart) (ss ts : List SysId) (t : SysId) → ((u : ℕ) → is_in u ts ≡ (is_in u ss || (t.0 == u)))
    → (r : Res) → is_systems r ≡ true → (u : TaskId) → (t.0 == u.system.0) ≡ false
    → owns_by (lists_by (lose_parts p ss) r) r u ≡ true → owns_by (lists_by (lose_parts p ts) r) r u ≡ true
owns-more p ss ts t more r wide u far own =
    ap (λ (es : List Elem). owns es u)
    (list-lost p ts r wide
    ∙ sym (filter-both (λ x. not (is_in x.task.system.0 ss)) (is_of_other t.0) (λ x. not (is_in x.task.system.0 ts))
    (λ x. ap not (more x.task.system.0) ∙ not-or (is_in x.task.system.0 ss) (t.0 == x.task.system.0))
    (list_of (lists_by p r) r)))
    ∙ owns-filter (is_of_other t.0) u
    (λ e same. ap (λ (v : TaskId). not (t.0 == v.system.0)) (sym (same_task-exact u e.task same)) ∙ ap not far)
    (left_of ss (list_of (lists_by p r) r))
    (ap (λ (es : List Elem). owns es u) (sym (list-lost p ss r wide)) ∙ own)
  where
    not-or : (a b : Bool) → not (a || b) ≡ (not a && not b)
    not-or true b = refl
    not-or false b = refl

-- an owner stays one where its system isn't among those that are lost
pub owns-left : (p : StarPart) (ss : List SysId) (r : Res) → is_systems r ≡ true → (u : TaskId)
    → is_in u.system.0 ss ≡ false → owns_by (lists_by p r) r u ≡ true
    → owns_by (lists_by (lose_parts p ss) r) r u ≡ true
owns-left p ss r wide u apart own =
    ap (λ (es : List Elem). owns es u) (list-lost p ss r wide)
    ∙ owns-filter (λ x. not (is_in x.task.system.0 ss)) u
    (λ e same.
    ap (λ (v : TaskId). not (is_in v.system.0 ss)) (sym (same_task-exact u e.task same)) ∙ ap not apart)
    (list_of (lists_by p r) r) own

-- nobody does where none is lost
pub none-gets : (p : StarPart) (r : Res) (t : TaskId) → gets p [] r t ≡ false
none-gets p r t = go (p.manager.system.0 == t.system.0) (owns_by (lists_by p r) r t)
  where
    go : (a b : Bool) → (a && (b && not b)) ≡ false
    go true true = refl
    go true false = refl
    go false b = refl

-- ---- tasks that are told
pub gentle-each : (ps : List (TaskId × Res)) (v : TasksView) → Gentle v (tell_each v ps)
unfolding tell_each
gentle-each [] v = gentle-none v
gentle-each (o ∷ os) v =
    gentle-then v (tell_control v o.1 o.0) (tell_each (tell_control v o.1 o.0) os) (gentle-control v o.1 o.0)
    (gentle-each os (tell_control v o.1 o.0))

pub keeps-each : (deck : Deck) (ps : List (TaskId × Res)) (v : TasksView) → AllDate false deck v
    → Keeps deck v (tell_each v ps)
unfolding tell_each
keeps-each deck [] v h = keeps-none deck v h
keeps-each deck (o ∷ os) v h =
    keeps-then deck v (tell_control v o.1 o.0) (tell_each (tell_control v o.1 o.0) os) (keeps-control deck v o.1 o.0 h)
    (λ k. keeps-each deck os (tell_control v o.1 o.0) k)

-- each of them that has a record is marked
pub each-marked : (ps : List (TaskId × Res)) (v : TasksView) (r : Res) (t : TaskId) → is_systems r ≡ true
    → list_any (λ p. same_task t p.0 && same_res r p.1) ps ≡ true → is_task v t ≡ true
    → has_res r (state_of v t).records ≡ true → is_marked r (state_of (tell_each v ps) t).records ≡ true
unfolding tell_each
each-marked [] v r t wide among here has = no_truth true refl (sym among)
each-marked (o ∷ os) v r t wide among here has =
    go (same_task t o.0 && same_res r o.1) refl among
    (λ h.
    each-marked os (tell_control v o.1 o.0) r t wide h ((gentle-control v o.1 o.0).here t ∙ here)
    (((gentle-control v o.1 o.0).each t).has r wide ∙ has))
  where
    go : (b : Bool) → (same_task t o.0 && same_res r o.1) ≡ b
        → (b || list_any (λ p. same_task t p.0 && same_res r p.1) os) ≡ true
        → (list_any (λ p. same_task t p.0 && same_res r p.1) os ≡ true
        → is_marked r (state_of (tell_each (tell_control v o.1 o.0) os) t).records ≡ true)
        → is_marked r (state_of (tell_each (tell_control v o.1 o.0) os) t).records ≡ true
    go true is h more =
        let both = and_parts (same_task t o.0) (same_res r o.1) is in
        ((gentle-each os (tell_control v o.1 o.0)).each t).marked r wide
        (subst (λ z. is_marked r (state_of (tell_control v z o.0) t).records ≡ true) (same_res-exact r o.1 both.1)
        (subst (λ z. is_marked r (state_of (tell_control v r z) t).records ≡ true) (same_task-exact t o.0 both.0)
        (control-marks v r t here has)))
    go false is h more = more h

-- ---- a system that loses others
pub gentle-losses : (ss : List SysId) (p : StarPart) (v : TasksView) → Gentle v (tell_losses v p ss)
gentle-losses [] p v = gentle-none v
gentle-losses (u ∷ us) p v =
    gentle-then v (tell_each v (gained p.manager u)) (tell_losses (tell_each v (gained p.manager u)) (lose_part p u) us)
    (gentle-each (gained p.manager u) v) (gentle-losses us (lose_part p u) (tell_each v (gained p.manager u)))

pub keeps-losses : (deck : Deck) (ss : List SysId) (p : StarPart) (v : TasksView) → AllDate false deck v
    → Keeps deck v (tell_losses v p ss)
keeps-losses deck [] p v h = keeps-none deck v h
keeps-losses deck (u ∷ us) p v h =
    keeps-then deck v (tell_each v (gained p.manager u))
    (tell_losses (tell_each v (gained p.manager u)) (lose_part p u) us) (keeps-each deck (gained p.manager u) v h)
    (λ k. keeps-losses deck us (lose_part p u) (tell_each v (gained p.manager u)) k)

-- the lists of a resource's entry once one is lost
lists-then : (p : StarPart) (u : SysId) (r : Res) → lists_by (lose_part p u) r ≡ remove_state (lists_by p r) u.0
lists-then p u r =
    ap (λ k. plain (items_of (kept_for (lose_part p u).manager.entries (entry_of_res k r)))) (lost-count p (u ∷ []))
    ∙ go (entry_of_res (length p.manager.entries) r)
  where
    go : (o : Option ℕ)
        → plain (items_of (kept_for (lose_part p u).manager.entries o))
        ≡ remove_state (plain (items_of (kept_for p.manager.entries o))) u.0
    go None = refl
    go (Some e) = plain-lost p.manager u e

-- who is freed in one entry is freed in some
freed-some : (u : ℕ) (r : Res) (t : TaskId) (os : List (Option Managed)) (o : Option ℕ)
    → is_freed u (plain (items_of (kept_for os o))) r t ≡ true
    → list_any (λ z. is_freed u (plain (items_of z)) r t) os ≡ true
freed-some u r t os None h = no_truth true refl (sym h)
freed-some u r t os (Some e) h = go os e h
  where
    go : (zs : List (Option Managed)) (i : ℕ) → is_freed u (plain (items_of (kept_at zs i))) r t ≡ true
        → list_any (λ z. is_freed u (plain (items_of z)) r t) zs ≡ true
    go [] i h = no_truth true refl (sym h)
    go (z ∷ zs) zero h =
        or_left (is_freed u (plain (items_of z)) r t) (list_any (λ y. is_freed u (plain (items_of y)) r t) zs) h
    go (z ∷ zs) (suc i) h =
        or_right (is_freed u (plain (items_of z)) r t) (list_any (λ y. is_freed u (plain (items_of y)) r t) zs)
        (go zs i h)

pub losses-marked : (ss : List SysId) (p : StarPart) (v : TasksView) (r : Res) (t : TaskId) → is_systems r ≡ true
    → gets p ss r t ≡ true → is_task v t ≡ true → has_res r (state_of v t).records ≡ true
    → is_marked r (state_of (tell_losses v p ss) t).records ≡ true
losses-marked [] p v r t wide gets-it here has = no_truth (gets p [] r t) gets-it (none-gets p r t)
losses-marked (u ∷ us) p v r t wide gets-it here has =
    go (owns_by (lists_by (lose_part p u) r) r t) refl
    (λ more.
    losses-marked us (lose_part p u) (tell_each v (gained p.manager u)) r t wide more
    ((gentle-each (gained p.manager u) v).here t ∙ here)
    (((gentle-each (gained p.manager u) v).each t).has r wide ∙ has))
  where
    own : (p.manager.system.0 == t.system.0) ≡ true
    own =
        (and_parts (p.manager.system.0 == t.system.0)
        (owns_by (lists_by (lose_parts p (u ∷ us)) r) r t && not (owns_by (lists_by p r) r t)) gets-it).0

    owned : (owns_by (lists_by (lose_parts p (u ∷ us)) r) r t ≡ true) × (not (owns_by (lists_by p r) r t) ≡ true)
    owned =
        and_parts (owns_by (lists_by (lose_parts p (u ∷ us)) r) r t) (not (owns_by (lists_by p r) r t))
        (and_parts (p.manager.system.0 == t.system.0)
        (owns_by (lists_by (lose_parts p (u ∷ us)) r) r t && not (owns_by (lists_by p r) r t)) gets-it).1

    go : (b : Bool) → owns_by (lists_by (lose_part p u) r) r t ≡ b
        → (gets (lose_part p u) us r t ≡ true
        → is_marked r (state_of (tell_losses (tell_each v (gained p.manager u)) (lose_part p u) us) t).records ≡ true)
        → is_marked r (state_of (tell_losses (tell_each v (gained p.manager u)) (lose_part p u) us) t).records ≡ true
    go false is rest =
        rest
        (and_from (p.manager.system.0 == t.system.0)
        (owns_by (lists_by (lose_parts p (u ∷ us)) r) r t && not (owns_by (lists_by (lose_part p u) r) r t)) own
        (and_from (owns_by (lists_by (lose_parts p (u ∷ us)) r) r t) (not (owns_by (lists_by (lose_part p u) r) r t))
        owned.0 (ap not is)))
    go true is rest =
        ((gentle-losses us (lose_part p u) (tell_each v (gained p.manager u))).each t).marked r wide
        (each-marked (gained p.manager u) v r t wide
        (gained_are_freed p.manager u r t
        ∙ and_from (p.manager.system.0 == t.system.0)
        (list_any (λ o. is_freed u.0 (plain (items_of o)) r t) p.manager.entries) own
        (freed-some u.0 r t p.manager.entries (entry_of_res (length p.manager.entries) r)
        (and_from (owns_by (remove_state (lists_by p r) u.0) r t) (not (owns_by (lists_by p r) r t))
        (ap (λ st. owns_by st r t) (sym (lists-then p u r)) ∙ is) owned.1)))
        here has)
