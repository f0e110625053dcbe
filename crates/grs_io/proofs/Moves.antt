-- What a read from bytes in memory moves.
use Rattle.std.proofs.Common.{◌≡◌, ℕ, ◌-◌, ◌+◌, ◌<◌, min, List, [], ◌++◌, length, take, drop, Option, Some, None, sym}
use Rattle.std.proofs.Common.{arith}
use Rattle.std.proofs.lemmas.Grind.{common_steps}
use Rattle.std.proofs.Math.Seq.{take-add}
use Rattle.std.specs.Io.KnownBytes.{Appends}
use Rattle.std.proofs.lemmas.List.{drop-drop, take-append-drop}

-- the rest begins with what is moved out of it
pub moves : (at n : ℕ) (bytes : List ℕ) → drop at bytes ≡ take n (drop at bytes) ++ drop (at + n) bytes
moves at n bytes = rw (← drop-drop n at bytes) (sym (take-append-drop n (drop at bytes)))

-- where there was room and nothing is moved, nothing is left
pub moves_none : (at n room most : ℕ) (bytes : List ℕ) → n ≡ min (min (length (drop at bytes)) room) most → 0 < most
    → n ≡ 0 → 0 < room → drop (at + n) bytes ≡ []
moves_none at n room most bytes e m z r = grind (arith, common_steps)

rest_of : (d : ℕ) (bytes : List ℕ) → take (length bytes - d) (drop d bytes) ≡ drop d bytes
rest_of d bytes = grind (arith, common_steps)

two_fronts : (a b c : Option (List ℕ)) (d n : ℕ) (bytes : List ℕ) → Appends a b (take d bytes)
    → Appends b c (take n (drop d bytes)) → Appends a c (take (d + n) bytes)
two_fronts None b c d n bytes p q = tt
two_fronts (Some xs) None c d n bytes p q = absurd p
two_fronts (Some xs) (Some ys) None d n bytes p q = absurd q
two_fronts (Some xs) (Some ys) (Some zs) d n bytes p q = grind (arith, common_steps, p, q, take-add d n bytes)

-- a front that is written, and then a front of the rest
pub appends_more : (a b c : Option (List ℕ)) (d n : ℕ) (bytes : List ℕ) → Appends a b (take d bytes)
    → Appends b c (take n (take (length bytes - d) (drop d bytes))) → Appends a c (take (d + n) bytes)
appends_more a b c d n bytes p q = two_fronts a b c d n bytes p (rw (rest_of d bytes) at q)
