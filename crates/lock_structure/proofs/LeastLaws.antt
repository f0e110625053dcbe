-- The least system that passes a test.
use Rattle.std.proofs.Common.{◌≡◌, ◌<◌, ℕ, zero, suc, Bool, true, false, refl, ap, sym, ◌∙◌, arith}
use Rattle.std.specs.Prelude.{◌==◌, Option, Some, None}
use Rattle.std.proofs.lemmas.Bool.{eqb-true}
use Rattle.std.proofs.lemmas.Bool.Decides.{nat_tests}
use Rattle.grs_base.specs.declared.resource.SysId.{SysId}
use Rattle.lock_structure.specs.Least.{or_this, least_below}

-- the least passes and is below; where there is none nobody passes
pub least-passes : (n : ℕ) (test : ℕ → Bool) (s : SysId) → least_below n test ≡ Some s → (s.0 < n) × (test s.0 ≡ true)
least-passes zero test s h = absurd cc
least-passes (suc n) test s h = go (least_below n test) refl (test n) refl h (least-passes n test s)
  where
    number : ℕ → Option SysId → ℕ
    number d None = d
    number d (Some u) = u.0

    go : (o : Option SysId) → least_below n test ≡ o → (b : Bool) → test n ≡ b → or_this o n b ≡ Some s
        → (least_below n test ≡ Some s → (s.0 < n) × (test s.0 ≡ true)) → (s.0 < suc n) × (test s.0 ≡ true)
    go (Some u) is b at k rest = let found = rest (is ∙ k) in (omega (arith, found.0), found.1)
    go None is true at k rest = let e : n ≡ s.0 = ap (number n) k in (omega (arith, e), ap test (sym e) ∙ at)
    go None is false at k rest = absurd cc

pub none-passes : (n : ℕ) (test : ℕ → Bool) → least_below n test ≡ None → (s : ℕ) → s < n → test s ≡ false
none-passes zero test h s l = absurd (omega (arith, l))
none-passes (suc n) test h s l =
    go (least_below n test) refl (test n) refl h (s == n) refl (λ is. none-passes n test is s)
  where
    go : (o : Option SysId) → least_below n test ≡ o → (b : Bool) → test n ≡ b → or_this o n b ≡ None → (c : Bool)
        → (s == n) ≡ c → (least_below n test ≡ None → s < n → test s ≡ false) → test s ≡ false
    go (Some u) is b at k c same rest = absurd cc
    go None is true at k c same rest = absurd cc
    go None is false at k true same rest = ap test (eqb-true s n same) ∙ at
    go None is false at k false other rest = rest is (grind (arith, nat_tests, other, l))

pub nobody-below : (n : ℕ) (test : ℕ → Bool) (s : SysId) → least_below n test ≡ Some s → (r : ℕ) → r < s.0
    → test r ≡ false
nobody-below zero test s h r l = absurd cc
nobody-below (suc n) test s h r l =
    go (least_below n test) refl (test n) h (λ is. nobody-below n test s is r l)
  where
    number : ℕ → Option SysId → ℕ
    number d None = d
    number d (Some u) = u.0

    go : (o : Option SysId) → least_below n test ≡ o → (b : Bool) → or_this o n b ≡ Some s
        → (least_below n test ≡ Some s → test r ≡ false) → test r ≡ false
    go (Some u) is b k rest = rest (is ∙ k)
    go None is true k rest = let e : n ≡ s.0 = ap (number n) k in none-passes n test is r (omega (arith, e, l))
    go None is false k rest = absurd cc

pub least-none : (n : ℕ) (test : ℕ → Bool) → least_below (suc n) test ≡ None → least_below n test ≡ None
least-none n test = go (least_below n test) refl
  where
    go : (o : Option SysId) → least_below n test ≡ o → or_this o n (test n) ≡ None → least_below n test ≡ None
    go (Some u) is k = absurd cc
    go None is k = is
