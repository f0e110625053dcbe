-- How the records of one task are kept: each under a number, in the order of the numbers, and beside them the
-- number of each resource that has a record.
use Rattle.std.specs.Prelude.{◌≡◌, ◌≤◌, ℕ, Bool, true, not, ◌&&◌, ◌==◌, nat_lt, List, [], ◌∷◌, length, cond, Option}
use Rattle.std.specs.Prelude.{Some, None, is_some}
use Rattle.std.specs.Map.{lookup}
use Rattle.grs_base.specs.Same.{same_res}
use Rattle.grs_base.specs.declared.resource.Res.{Res}
use Rattle.task_state.specs.declared.state.Rec.{Rec}

-- records with their numbers
abbrev pub Numbered : Type 0
Numbered = List (ℕ × Rec)

-- the number of the first record of a resource
abbrev pub record_number : Numbered → Res → Option ℕ
record_number [] r = None
record_number (e ∷ es) r = cond (same_res r e.1.res) (Some e.0) (record_number es r)

-- whether all numbers are above one
abbrev pub all_above : ℕ → Numbered → Bool
all_above k [] = true
all_above k (e ∷ es) = nat_lt k e.0 && all_above k es

-- whether the numbers rise, and are below one
abbrev pub rises_to : ℕ → Numbered → Bool
rises_to next [] = true
rises_to next (e ∷ es) = (nat_lt e.0 next && all_above e.0 es) && rises_to next es

-- whether no resource has two records
abbrev pub all_apart : Numbered → Bool
all_apart [] = true
all_apart (e ∷ es) = not (is_some (record_number es e.1.res)) && all_apart es

-- records without that of a number
abbrev pub without_number : ℕ → Numbered → Numbered
without_number k [] = []
without_number k (e ∷ es) = cond (k == e.0) es (e ∷ without_number k es)

-- records with that of a number changed
abbrev pub on_number : ℕ → (Rec → Rec) → Numbered → Numbered
on_number k f [] = []
on_number k f (e ∷ es) = cond (k == e.0) ((e.0, f e.1) ∷ es) (e ∷ on_number k f es)

-- what is true of the records and the numbers of one task; `next` is the number of the next record
pub record IsKept (numbers : List (Res × ℕ)) (recs : Numbered) (next : ℕ) : Type 0 where
  pub rising : rises_to next recs ≡ true
  pub apart : all_apart recs ≡ true
  pub numbered : (r : Res) → lookup (same_res r) numbers ≡ record_number recs r
  pub few : length recs ≤ 0xffff_ffff
