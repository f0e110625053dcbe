-- Laws of counts by unit.
use Rattle.std.proofs.Common.{◌≡◌, ◌≢◌, ◌+◌, ℕ, List, [], ◌∷◌, ◌++◌, set, Some, None, refl, arith}
use Rattle.std.specs.Prelude.{slice_get, insert}
use Rattle.std.proofs.lemmas.Bool.Decides.{nat_tests}
use Rattle.task_state.specs.Units.{counting, counting_all, unit_place}

-- a unit that has a count gets one more
pub counting-there : (u : ℕ) (cs : List (ℕ × ℕ)) (c : ℕ × ℕ) → slice_get cs (unit_place u cs) ≡ Some c → c.0 ≡ u
    → counting u cs ≡ set cs (unit_place u cs) (u, c.1 + 1)
counting-there u [] c h e = cc
counting-there u (d ∷ ds) c h e = grind (arith, nat_tests, h, e, counting-there u ds c)

-- a unit that has none is counted once, before the greater ones
pub counting-last : (u : ℕ) (cs : List (ℕ × ℕ)) → slice_get cs (unit_place u cs) ≡ None
    → counting u cs ≡ insert cs (unit_place u cs) (u, 1)
counting-last u [] h = refl
counting-last u (d ∷ ds) h = grind (arith, nat_tests, h, counting-last u ds)

pub counting-other : (u : ℕ) (cs : List (ℕ × ℕ)) (c : ℕ × ℕ) → slice_get cs (unit_place u cs) ≡ Some c → c.0 ≢ u
    → counting u cs ≡ insert cs (unit_place u cs) (u, 1)
counting-other u [] c h e = cc
counting-other u (d ∷ ds) c h e = grind (arith, nat_tests, h, e, counting-other u ds c)

pub ruleset counts = (counting-there, counting-last, counting-other)

-- units in two parts are counted one part after the other
pub counting_all-append : (cs : List (ℕ × ℕ)) (us vs : List ℕ)
    → counting_all cs (us ++ vs) ≡ counting_all (counting_all cs us) vs
counting_all-append cs [] vs = refl
counting_all-append cs (u ∷ us) vs = counting_all-append (counting u cs) us vs

pub ruleset parts = (counting_all-append)
