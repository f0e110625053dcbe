-- Laws of the words and the parts to which a table leads.
use Rattle.std.specs.Prelude.{◌≡◌, ◌<◌, ℕ, Bool, true, false, nat_lt, List, length, Some, None}
use Rattle.std.specs.List.{list_all}
use Rattle.grs_base.specs.Limits.{most_systems}
use Rattle.grs_base.specs.Rows.{rows_of}
use Rattle.grs_base.specs.State.{State}
use Rattle.grs_base.specs.declared.resource.Row.{Row}
use Rattle.grs_base.specs.declared.resource.SysId.{SysId}
use Rattle.grs_wire.specs.LockWords.{interest, manager}
use Rattle.lock_structure.specs.Laws.{is_interested}
use Rattle.lock_structure.specs.Words.{word_fits}
use Rattle.mode_migrate.specs.Migrate.{has_elements, interest_by, manager_by, word_by, table_words, ranked_by, part_of}
use Rattle.mode_migrate.specs.Migrate.{part_by, parts_by, has_small_ranks, AreApart, AreLoadable}

-- whether all elements of a table are of systems below n
abbrev pub are_within : ℕ → State → Bool
are_within n t = list_all (λ h. nat_lt h.1.task.system.0 n) t

-- A word says who has interest in its entry by the table, and who manages it.
abbrev pub WordsSay : Type 0
WordsSay =
    (entries e : ℕ) (rows : List Row)
    → (interest (word_by entries e rows) ≡ interest_by entries e rows)
    × (manager (word_by entries e rows) ≡ manager_by entries e rows)

-- The least of the systems that have elements on resources of an entry manages it; where none has any, nobody does.
abbrev pub LeastManages : Type 0
LeastManages =
    (entries e : ℕ) (rows : List Row)
    → ((s : SysId) → manager_by entries e rows ≡ Some s
    → (has_elements entries e rows s.0 ≡ true) × ((r : ℕ) → r < s.0 → has_elements entries e rows r ≡ false))
    × (manager_by entries e rows ≡ None → (r : ℕ) → r < most_systems → has_elements entries e rows r ≡ false)

-- By the words of a table a system has interest in an entry exactly where the rows of the table have an element of the
-- system there, owner or waiter.
abbrev pub InterestIsByElements : Type 0
InterestIsByElements =
    (entries : ℕ) (t : State) → 0 < entries → are_within most_systems t ≡ true → (e s : ℕ)
    → is_interested (table_words entries t) e s ≡ has_elements entries e (rows_of t) s

-- The words of a table with elements of so many systems are such as the complex may change by: one for each entry, each
-- 0 or with a manager that has interest, and they name these systems alone.
abbrev pub OwnWordsFit : Type 0
OwnWordsFit =
    (n entries : ℕ) (t : State) → are_within n t ≡ true
    → (length (table_words entries t) ≡ entries) × (list_all (word_fits n) (table_words entries t) ≡ true)

-- An entry's part of all ranked rows is the rows of the entry, their elements numbered from 1.
abbrev pub PartsAreNumbered : Type 0
PartsAreNumbered =
    (entries e : ℕ) (t : State) → e < entries → part_of entries e (ranked_by entries t) ≡ part_by entries t e

-- Its manager may keep it, where no task stands twice in a list and ranks are small.
abbrev pub PartsAreLoadable : Type 0
PartsAreLoadable =
    (entries : ℕ) (t : State) → AreApart t → list_all has_small_ranks (parts_by entries t) ≡ true
    → AreLoadable entries (parts_by entries t)
