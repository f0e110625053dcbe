-- Which marks go when a system is removed, as they are found by numbers. This is how the store of a manager does it,
-- and nothing that a reader has to believe: what a manager keeps is said in `Loses`.
use Rattle.std.specs.Prelude.{ℕ, Bool, false, ◌&&◌, ◌==◌, List, Option, Some, None, slice_get}
use Rattle.grs_base.specs.State.{is_systems}
use Rattle.grs_base.specs.declared.resource.Res.{Res}
use Rattle.contention_mgr.specs.declared.marks.Spot.{Spot}

-- whether a resource with its number, if it is one, is of the whole complex
abbrev pub is_wide : Option (Res × ℕ) → Bool
is_wide None = false
is_wide (Some p) = is_systems p.0

-- whether the element at a spot leaves when system n is removed
abbrev pub is_removed : List (Res × ℕ) → ℕ → Spot → Bool
is_removed names n s = (n == s.task.system.0) && is_wide (slice_get names s.number)
