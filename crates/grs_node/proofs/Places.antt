-- Places in lists: of lines, of systems, and of requests.
use Rattle.std.proofs.Common.{◌≡◌, ◌≤◌, ℕ, zero, suc, List, [], ◌∷◌, map, length, take, Result, Ok, Err, IfOk, refl, ap}
use Rattle.std.proofs.Common.{arith}
use Rattle.std.specs.Prelude.{slice_get}
use Rattle.std.specs.Option.{option_map}
use Rattle.std.proofs.lemmas.List.{take_min, length-take}

-- the item at a place of mapped items
pub slice_get-map : {X Y : Type 0} (f : X → Y) (xs : List X) (n : ℕ)
    → slice_get (map f xs) n ≡ option_map f (slice_get xs n)
slice_get-map f [] n = refl
slice_get-map f (x ∷ xs) zero = refl
slice_get-map f (x ∷ xs) (suc n) = slice_get-map f xs n

-- the first items, so many at most
pub few_first : {X E : Type 0} (r : Result (List X) E) (k : ℕ) (xs : List X) → IfOk r (λ ys. ys ≡ take k xs)
    → IfOk r (λ ys. length ys ≤ k)
few_first (Ok ys) k xs h =
    let same : length ys ≡ length (take k xs) = ap length h in omega (arith, same, length-take k xs)
few_first (Err e) k xs h = tt

pub ruleset of_lines = (slice_get-map)

pub ruleset first_places = (take_min)
