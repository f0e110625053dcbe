-- Lists of another length are others.
use Rattle.std.proofs.Common.{◌≡◌, ◌≢◌, ℕ, suc, Bool, true, false, List, [], ◌∷◌, length, refl, ap, arith}
use Rattle.grs_base.specs.declared.resource.Elem.{Elem}
use Rattle.grs_enf.specs.Same.{same_elems}

same-length : (es fs : List Elem) → same_elems es fs ≡ true → length es ≡ length fs
same-length [] [] h = refl
same-length [] (f ∷ fs) h = cc
same-length (e ∷ es) [] h = cc
same-length (e ∷ es) (f ∷ fs) h = ap (λ (n : ℕ). suc n) (same-length es fs (grind (arith, h)))

pub other-length : (es fs : List Elem) → length es ≢ length fs → false ≡ same_elems es fs
other-length es fs other = by (same_elems es fs) refl
  where
    by : (b : Bool) → same_elems es fs ≡ b → false ≡ b
    by true same = absurd (other (same-length es fs same))
    by false same = refl
