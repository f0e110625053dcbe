-- Latches as queues: each with the number of its queue, where it has one.
use Rattle.std.specs.Prelude.{◌≡◌, ℕ, Bool, true, false, not, ◌&&◌, ◌||◌, nat_eq, List, [], ◌∷◌, map, Option, Some, None}
use Rattle.grs_base.specs.State.{Held, list_at}
use Rattle.grs_base.specs.declared.resource.Elem.{Elem}
use Rattle.grs_latch.specs.Latches.{Lists}

-- the requests of a latch: those of its queue
abbrev pub list_in : Held ℕ → Option ℕ → List Elem
list_in s None = []
list_in s (Some q) = list_at nat_eq s q

abbrev pub lists_at : List (Option ℕ) → Held ℕ → Lists
lists_at ns s = map (list_in s) ns

-- whether a queue is that of one of these latches
abbrev pub is_among : ℕ → List (Option ℕ) → Bool
is_among q [] = false
is_among q (None ∷ ns) = is_among q ns
is_among q (Some n ∷ ns) = nat_eq q n || is_among q ns

-- whether no two have the same queue
abbrev pub are_apart : List (Option ℕ) → Bool
are_apart [] = true
are_apart (None ∷ ns) = are_apart ns
are_apart (Some n ∷ ns) = not (is_among n ns) && are_apart ns

-- queues in use, and none that of two latches
pub record IsNumbered (ns : List (Option ℕ)) (in_use : ℕ → Bool) : Type 0 where
  pub apart : are_apart ns ≡ true
  pub live : (q : ℕ) → is_among q ns ≡ true → in_use q ≡ true
