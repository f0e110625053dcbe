-- The shared elements in front of a list in which an element comes, goes or is made exclusive.
use Rattle.std.proofs.Common.{◌≡◌, ◌<◌, ◌+◌, ℕ, zero, suc, false, ◌&&◌, cond, List, [], ◌∷◌, ◌++◌, length, drop, set}
use Rattle.std.proofs.Common.{refl, arith, eqb}
use Rattle.std.specs.Prelude.{remove, min}
use Rattle.std.proofs.lemmas.Bool.Decides.{nat_tests}
use Rattle.grs_base.specs.Lists.{is_shared, shared_front}
use Rattle.grs_base.specs.declared.resource.Elem.{Elem}

pub shared_front-push : (es : List Elem) (e : Elem)
    → shared_front (es ++ e ∷ [])
    ≡ cond (eqb (shared_front es) (length es) && is_shared e.ctl) (suc (shared_front es)) (shared_front es)
shared_front-push [] e = grind (arith, nat_tests)
shared_front-push (x ∷ es) e = grind (arith, nat_tests, shared_front-push es e)

-- one of those in front goes
pub shared_front-remove_front : (es : List Elem) (p : ℕ) → p < shared_front es
    → shared_front (remove es p) + 1 ≡ shared_front es
shared_front-remove_front [] p h = absurd (omega arith)
shared_front-remove_front (x ∷ es) zero h = grind (arith, h)
shared_front-remove_front (x ∷ es) (suc p) h = grind (arith, h, shared_front-remove_front es p)

-- the first exclusive one goes
pub shared_front-remove_first : (es : List Elem) (p : ℕ) → p ≡ shared_front es
    → shared_front (remove es p) ≡ p + shared_front (drop (p + 1) es)
shared_front-remove_first [] zero h = refl
shared_front-remove_first [] (suc p) h = absurd (omega arith)
shared_front-remove_first (x ∷ es) zero h = grind (arith, h)
shared_front-remove_first (x ∷ es) (suc p) h = grind (arith, nat_tests, h, shared_front-remove_first es p)

-- one behind the first exclusive one goes
pub shared_front-remove_behind : (es : List Elem) (p : ℕ) → shared_front es < p
    → shared_front (remove es p) ≡ shared_front es
shared_front-remove_behind [] zero h = absurd (omega arith)
shared_front-remove_behind [] (suc p) h = refl
shared_front-remove_behind (x ∷ es) zero h = absurd (omega arith)
shared_front-remove_behind (x ∷ es) (suc p) h = grind (arith, nat_tests, h, shared_front-remove_behind es p)

-- one is made exclusive
pub shared_front-set : (es : List Elem) (p : ℕ) (e : Elem) → p < length es → is_shared e.ctl ≡ false
    → shared_front (set es p e) ≡ min (shared_front es) p
shared_front-set [] p e h s = absurd (omega arith)
shared_front-set (x ∷ es) zero e h s = grind (arith, s)
shared_front-set (x ∷ es) (suc p) e h s = grind (arith, h, s, shared_front-set es p e)
