-- What the removal of a system leaves of each list.
use Rattle.std.proofs.Common.{◌≡◌, ℕ, true, false, not, ◌&&◌, refl, ap, sym, ◌∙◌, subst}
use Rattle.std.specs.Prelude.{filter, ◌==◌}
use Rattle.grs_base.specs.Same.{same_res}
use Rattle.grs_base.specs.Lists.{owns, is_apart}
use Rattle.grs_base.specs.State.{State, list_of, is_systems, is_of_other, remove_state}
use Rattle.grs_base.specs.declared.resource.Res.{Res}
use Rattle.grs_base.specs.declared.resource.TaskId.{TaskId}
use Rattle.grs_base.proofs.Picks.{pick-filter, pick-filter_by}
use Rattle.grs_base.proofs.SameLaws.{same_res-exact, same_task-exact}
use Rattle.grs_base.proofs.ListLaws.{owns-filter, is_apart-filter}

systems-same : (r q : Res) → same_res r q ≡ true → is_systems q ≡ is_systems r
systems-same r q h = ap is_systems (sym (same_res-exact r q h))

-- a property of the lists of Systems resources and of the others
pub by_systems : (r : Res) (P : Type 0) → (is_systems r ≡ true → P) → (is_systems r ≡ false → P) → P
by_systems r P wide narrow = elim (is_systems r) as (λ b. is_systems r ≡ b → P) [ true ↦ wide | false ↦ narrow ] refl

-- the list of a Systems resource
pub list_of-remove : (s : State) (n : ℕ) (r : Res) → is_systems r ≡ true
    → list_of (remove_state s n) r ≡ filter (is_of_other n) (list_of s r)
list_of-remove s n r wide =
    pick-filter_by (λ h. same_res r h.0) (λ h. h.1) (λ h. not (is_systems h.0 && (n == h.1.task.system.0)))
    (is_of_other n)
    (λ h same. ap (λ b. not (b && (n == h.1.task.system.0))) (systems-same r h.0 same ∙ wide)) s

-- any other list stays
pub list_of-remove_other : (s : State) (n : ℕ) (r : Res) → is_systems r ≡ false
    → list_of (remove_state s n) r ≡ list_of s r
list_of-remove_other s n r narrow =
    pick-filter (λ h. same_res r h.0) (λ h. h.1) (λ h. not (is_systems h.0 && (n == h.1.task.system.0)))
    (λ h same. ap (λ b. not (b && (n == h.1.task.system.0))) (systems-same r h.0 same ∙ narrow)) s

-- an owner of another system stays one
pub owns-remove : (s : State) (n : ℕ) (r : Res) (t : TaskId) → (n == t.system.0) ≡ false → owns (list_of s r) t ≡ true
    → owns (list_of (remove_state s n) r) t ≡ true
owns-remove s n r t apart own = by_systems r _
    (λ wide. subst (λ l. owns l t ≡ true) (sym (list_of-remove s n r wide))
    (owns-filter (is_of_other n) t
    (λ e same. ap (λ (u : TaskId). not (n == u.system.0)) (sym (same_task-exact t e.task same)) ∙ ap not apart)
    (list_of s r) own))
    (λ narrow. subst (λ l. owns l t ≡ true) (sym (list_of-remove_other s n r narrow)) own)

-- no task comes to stand twice
pub apart-remove : (s : State) (n : ℕ) (r : Res) → is_apart (list_of s r) ≡ true
    → is_apart (list_of (remove_state s n) r) ≡ true
apart-remove s n r h = by_systems r _
    (λ wide. ap is_apart (list_of-remove s n r wide) ∙ is_apart-filter (is_of_other n) (list_of s r) h)
    (λ narrow. ap is_apart (list_of-remove_other s n r narrow) ∙ h)
