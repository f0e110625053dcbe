-- Truth values: small laws on tests.
use Rattle.std.proofs.Common.{◌≡◌, ℕ, Bool, true, false, ◌||◌, refl, sym, subst}
use Rattle.std.specs.Prelude.{◌==◌}
use Rattle.std.proofs.lemmas.Bool.{eq-eqb, eqb-true}
use Rattle.grs_base.specs.Same.{same_task}
use Rattle.grs_base.specs.declared.resource.TaskId.{TaskId}
use Rattle.grs_base.proofs.SameLaws.{same_task-exact, same_task-itself}

pub no_truth : {X : Type 0} (b : Bool) → b ≡ true → b ≡ false → X
no_truth b e f = absurd (cc)

pub false_by : (b : Bool) → (b ≡ true → b ≡ false) → b ≡ false
false_by true h = h refl
false_by false h = refl

pub or_off : (a b : Bool) → b ≡ false → (a || b) ≡ a
or_off true b e = refl
or_off false b e = e

pub or_other : (a b : Bool) → (a || b) ≡ true → a ≡ false → b ≡ true
or_other true b e f = cc
or_other false b e f = e

pub task_swap : (t u : TaskId) → same_task t u ≡ false → same_task u t ≡ false
task_swap t u e =
    false_by (same_task u t) (λ h.
    no_truth (same_task t u) (subst (λ (z : TaskId). same_task z u ≡ true) (same_task-exact u t h) (same_task-itself u))
    e)

pub eqb-flip : (a b : ℕ) → (a == b) ≡ (b == a)
eqb-flip a b = go (a == b) refl
  where
    go : (c : Bool) → (a == b) ≡ c → c ≡ (b == a)
    go true e = sym (eq-eqb b a (sym (eqb-true a b e)))
    go false e = sym (false_by (b == a) (λ h. no_truth (a == b) (eq-eqb a b (sym (eqb-true b a h))) e))
