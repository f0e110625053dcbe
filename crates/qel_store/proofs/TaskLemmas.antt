-- The circles of the tasks, after a change.
use Rattle.std.proofs.Common.{◌≡◌, ◌<◌, ◌∙◌, ◌∷◌, [], ℕ, zero, suc, Bool, true, false, cond, Option, Some, None}
use Rattle.std.proofs.Common.{is_some, map, slice_get, refl, sym, ap, subst, arith}
use Rattle.std.specs.Cmp.{IsEquivalence, decided}
use Rattle.std.specs.Prelude.{unwrap_or}
use Rattle.std.specs.Map.{lookup}
use Rattle.std.proofs.lemmas.Bool.Decides.{nat_tests}
use Rattle.grs_base.specs.Same.{same_task}
use Rattle.grs_base.specs.declared.resource.TaskId.{TaskId}
use Rattle.grs_base.proofs.SameLaws.{same_task-exact, same_task-itself}
use Rattle.indexmap.specs.IndexMap.{IndexMap, IsUnique, with_value_at}
use Rattle.indexmap.proofs.CallerLemmas.{updates-with_value_at}
use Rattle.qel_store.specs.declared.rings.Ring.{Ring}
use Rattle.qel_store.specs.Rings.{no_ring}
use Rattle.qel_store.specs.Tasks.{TaskRings, is_known, ring_of}

pub ring-changed : (test : Bool) (r : Ring) (o : Option Ring)
    → unwrap_or (cond test (Some r) o) no_ring ≡ cond test r (unwrap_or o no_ring)
ring-changed true r o = refl
ring-changed false r o = refl

pub ruleset changes = (nat_tests, ring-changed, same_task-exact)

-- a task with elements has a circle
pub ring_known : (rs : TaskRings) (t : TaskId) → 0 < (ring_of rs t).len → is_known rs t ≡ true
ring_known rs t h = known (lookup (same_task t) rs) h
  where
    known : (o : Option Ring) → 0 < (unwrap_or o no_ring).len → is_some o ≡ true
    known None h = absurd (omega arith)
    known (Some r) h = refl

pub same_task-equiv : IsEquivalence same_task
same_task-equiv =
    decided same_task
    (λ x y. (same_task-exact x y, λ e. subst (λ (z : TaskId). same_task x z ≡ true) e (same_task-itself x)))

abbrev stood : TaskId → Ring → Option (TaskId × Ring)
stood k r = Some (k, r)

-- a task that stands at a place
pub stands_at : (rs : TaskRings) (i : ℕ) (t k : TaskId) (r : Ring) → slice_get rs i ≡ Some (k, r)
    → lookup (same_task k) rs ≡ Some r → same_task t k ≡ true → slice_get rs i ≡ Some (t, ring_of rs t)
stands_at rs i t k r at is same =
    at
    ∙ subst (λ (u : TaskId). stood k r ≡ stood u (ring_of rs u)) (sym (same_task-exact t k same))
    (ap (λ (o : Option Ring). stood k (unwrap_or o no_ring)) (sym is))

pub ring_at : (rs : TaskRings) (t k : TaskId) (r : Ring) → lookup (same_task k) rs ≡ Some r → same_task t k ≡ true
    → r ≡ ring_of rs t
ring_at rs t k r is same =
    subst (λ (u : TaskId). r ≡ ring_of rs u) (sym (same_task-exact t k same))
    (ap (λ (o : Option Ring). unwrap_or o no_ring) (sym is))

-- a circle that is written at a task's place
module _ {S : Type 0} (m : IndexMap TaskId Ring S) (i : ℕ) (t : TaskId) (w : Ring) where
  pub ring_of-at : IsUnique same_task m → slice_get m.entries i ≡ Some (t, ring_of m.entries t) → (u : TaskId)
      → ring_of (with_value_at m i w).entries u ≡ cond (same_task t u) w (ring_of m.entries u)
  ring_of-at unique at u =
      ap (λ (o : Option Ring). unwrap_or o no_ring)
      ((updates-with_value_at m i w same_task-equiv unique t (ring_of m.entries t) at).0 u)
      ∙ ring-changed (same_task t u) w (lookup (same_task u) m.entries)

-- a place where a task stands is there
pub at_value : (rs : TaskRings) (i : ℕ) (t : TaskId) (r was : Ring) → slice_get rs i ≡ Some (t, r)
    → Some was ≡ slice_get (map (λ (e : TaskId × Ring). e.1) rs) i → was ≡ r
at_value rs i t r was at is = same_ring was r (is ∙ by rs i at)
  where
    same_ring : (a b : Ring) → Some a ≡ Some b → a ≡ b
    same_ring a b h = cc

    by : (xs : TaskRings) (n : ℕ) → slice_get xs n ≡ Some (t, r)
        → slice_get (map (λ (e : TaskId × Ring). e.1) xs) n ≡ Some r
    by [] n h = cc
    by (x ∷ xs) zero h = cc
    by (x ∷ xs) (suc n) h = by xs n h
