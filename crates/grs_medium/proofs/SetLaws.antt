-- Laws of what is asked of all systems outside a set.
use Rattle.std.proofs.Common.{◌≡◌, ℕ, zero, suc, ◌<◌, Bool, false, ◌&&◌, ◌||◌, subst, arith}
use native.Mathlib.Decide.{ℕ_discrete}
use Rattle.grs_wire.specs.Masks.{has, all_others}

-- one system that fails the test
pub all_others_false : (n m : ℕ) (test : ℕ → Bool) (s : ℕ) → s < n → (has m s || test s) ≡ false
    → all_others n m test ≡ false
all_others_false zero m test s h e = absurd (omega arith)
all_others_false (suc n) m test s h e = go (ℕ_discrete s n) (λ (l : s < n). all_others_false n m test s l e)
  where
    go : Dec (s ≡ n) → (s < n → all_others n m test ≡ false) → (all_others n m test && (has m n || test n)) ≡ false
    go (yes same) below =
        let f : (has m n || test n) ≡ false = subst (λ (k : ℕ). (has m k || test k) ≡ false) same e in grind (arith, f)
    go (no ne) below = grind (arith, below (omega arith))
