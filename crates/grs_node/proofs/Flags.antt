-- Flags. One past the last isn't set, and setting it changes nothing.
use Rattle.std.proofs.Common.{◌≡◌, ◌≤◌, ℕ, zero, suc, Bool, true, false, ◌&&◌, List, [], ◌∷◌, length, refl, ap, arith}
use Rattle.std.specs.Prelude.{slice_index_or, slice_set}

pub flag-past : (bs : List Bool) (e : ℕ) → length bs ≤ e → slice_index_or bs e false ≡ false
flag-past [] e h = refl
flag-past (b ∷ bs) zero h = absurd (omega (arith, h))
flag-past (b ∷ bs) (suc e) h = flag-past bs e (omega (arith, h))

pub set-past : (bs : List Bool) (e : ℕ) (b : Bool) → length bs ≤ e → slice_set bs e b ≡ bs
set-past [] e b h = refl
set-past (c ∷ bs) zero b h = absurd (omega (arith, h))
set-past (c ∷ bs) (suc e) b h = ap (λ (xs : List Bool). c ∷ xs) (set-past bs e b (omega (arith, h)))

pub ruleset flags = (flag-past, set-past)

-- a condition may be looked at last
pub looked-last : (a b c d : Bool) → (a && (b && (c && d))) ≡ (a && (c && (d && b)))
looked-last false b c d = refl
looked-last true b false d = go b
  where
    go : (x : Bool) → (x && false) ≡ false
    go true = refl
    go false = refl
looked-last true false true false = refl
looked-last true false true true = refl
looked-last true true true false = refl
looked-last true true true true = refl

pub ruleset leaves = (looked-last)
