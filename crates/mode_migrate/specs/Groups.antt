-- The rows of a table by their lock entries, and what is read off the rows of one entry.
use Rattle.std.specs.Prelude.{ℕ, Bool, List, [], ◌∷◌, ◌++◌, Option, Some, None, map, get_or, slice_set}
use Rattle.std.specs.List.{range_with_len, list_any}
use Rattle.grs_base.specs.Limits.{most_systems}
use Rattle.grs_base.specs.declared.resource.Row.{Row}
use Rattle.grs_base.specs.declared.resource.SysId.{SysId}
use Rattle.grs_wire.specs.LockWords.{lock_word}
use Rattle.lock_structure.specs.Entries.{entry_of_res}
use Rattle.lock_structure.specs.Least.{least_below}
use Rattle.mode_migrate.specs.Migrate.{rows_in, is_by, set_below}

-- the rows of each of so many entries
abbrev pub groups_of : ℕ → List Row → List (List Row)
groups_of entries rows = map (λ e. rows_in entries e rows) (range_with_len 0 entries)

-- the rows of an entry among those of all
abbrev pub group_at : List (List Row) → ℕ → List Row
group_at groups e = get_or groups e []

-- with a row behind those of this entry, or nowhere
abbrev pub with_row_at : Option ℕ → Row → List (List Row) → List (List Row)
with_row_at None x groups = groups
with_row_at (Some e) x groups = slice_set groups e (group_at groups e ++ x ∷ [])

-- with a row behind those of its entry, where it has one
abbrev pub with_row : ℕ → Row → List (List Row) → List (List Row)
with_row entries x groups = with_row_at (entry_of_res entries x.res) x groups

-- whether a system has an element, owner or waiter, in one of these rows
abbrev pub is_among : List Row → ℕ → Bool
is_among rows s = list_any (λ x. list_any (is_by s) x.elems) rows

-- the systems that have one, the least of them, and the word of an entry whose rows these are
abbrev pub interest_of : List Row → ℕ
interest_of rows = set_below most_systems (is_among rows)

abbrev pub manager_of : List Row → Option SysId
manager_of rows = least_below most_systems (is_among rows)

abbrev pub word_of : List Row → ℕ
word_of rows = lock_word (interest_of rows) (manager_of rows) 0
