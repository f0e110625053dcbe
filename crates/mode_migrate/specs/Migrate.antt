-- What a table of resources leads to where the complex changes to star mode: the lock words, and for each system the
-- entries that it manages and has interest in. It is read off the lists that aren't empty, resources in name order.
use Rattle.std.specs.Prelude.{◌≡◌, ℕ, zero, suc, ◌+◌, Bool, true, ◌&&◌, ◌==◌, cond, nat_le, List, [], ◌∷◌, length, map}
use Rattle.std.specs.Prelude.{filter, get_or, Option, Some, None}
use Rattle.std.specs.List.{range_with_len, list_all, list_any, flat_map}
use Rattle.grs_base.specs.Limits.{last_number, most_systems}
use Rattle.grs_base.specs.Rows.{rows_of}
use Rattle.grs_base.specs.Lists.{is_apart}
use Rattle.grs_base.specs.State.{State, list_of}
use Rattle.grs_base.specs.declared.resource.Elem.{Elem}
use Rattle.grs_base.specs.declared.resource.Res.{Res}
use Rattle.grs_base.specs.declared.resource.Row.{Row}
use Rattle.grs_base.specs.declared.resource.SysId.{SysId}
use Rattle.grs_wire.specs.LockWords.{lock_word, is_manager}
use Rattle.grs_wire.specs.Masks.{with_also}
use Rattle.lock_structure.specs.Least.{least_below}
use Rattle.lock_structure.specs.RankedRows.{RankedRow, ranks_of, IsLoadable}
use Rattle.lock_structure.specs.Entries.{is_entry, entry_of_res}

-- ---- who has elements on resources of a lock entry

-- whether a row is of a resource of a lock entry, where there are so many entries
abbrev pub row_is_of : ℕ → ℕ → Row → Bool
row_is_of entries e x = is_entry e (entry_of_res entries x.res)

-- the rows of a lock entry
abbrev pub rows_in : ℕ → ℕ → List Row → List Row
rows_in entries e rows = filter (row_is_of entries e) rows

-- whether an element is of a task of a system
abbrev pub is_by : ℕ → Elem → Bool
is_by s x = x.task.system.0 == s

-- whether a system has an element, owner or waiter, on a resource of a lock entry
abbrev pub has_elements : ℕ → ℕ → List Row → ℕ → Bool
has_elements entries e rows s = list_any (λ x. row_is_of entries e x && list_any (is_by s) x.elems) rows

-- ---- the lock words

-- the set of the systems below n that pass a test
abbrev pub set_below : ℕ → (ℕ → Bool) → ℕ
set_below zero test = 0
set_below (suc n) test = cond (test n) (with_also (set_below n test) n) (set_below n test)

-- the systems that have interest in an entry: those that have elements there; the least of them manages it
abbrev pub interest_by : ℕ → ℕ → List Row → ℕ
interest_by entries e rows = set_below most_systems (has_elements entries e rows)

abbrev pub manager_by : ℕ → ℕ → List Row → Option SysId
manager_by entries e rows = least_below most_systems (has_elements entries e rows)

-- the word of an entry; its manager never changed by a removal yet
abbrev pub word_by : ℕ → ℕ → List Row → ℕ
word_by entries e rows = lock_word (interest_by entries e rows) (manager_by entries e rows) 0

-- the words of all entries, by a table
abbrev pub table_words : ℕ → State → List ℕ
table_words entries t = map (λ e. word_by entries e (rows_of t)) (range_with_len 0 entries)

-- ---- the part of a system

-- the entries that a system manages, and those in which it has interest
abbrev pub managed_by : ℕ → SysId → State → List ℕ
managed_by entries s t = filter (λ e. is_manager (manager_by entries e (rows_of t)) s) (range_with_len 0 entries)

abbrev pub interested_by : ℕ → SysId → State → List ℕ
interested_by entries s t = filter (λ e. has_elements entries e (rows_of t) s.0) (range_with_len 0 entries)

-- rows whose elements are numbered on from this number, row by row
abbrev pub numbered_from : ℕ → List Row → List RankedRow
numbered_from n [] = []
numbered_from n (x ∷ xs) = (x, range_with_len n (length x.elems)) ∷ numbered_from (n + length x.elems) xs

-- the rows of an entry with the ranks of their elements: 1, 2, .. per entry
abbrev pub numbered_in : ℕ → ℕ → List Row → List RankedRow
numbered_in entries e rows = numbered_from 1 (rows_in entries e rows)

-- the same of all entries, one after the other; every system ranks all elements alike, its own and those of others
abbrev pub ranked_by : ℕ → State → List RankedRow
ranked_by entries t = flat_map (λ e. numbered_in entries e (rows_of t)) (range_with_len 0 entries)

-- whether a system manages an entry by a table, and the rows of the entry with their ranks, which it then keeps
abbrev pub managed_by_table : ℕ → SysId → State → ℕ → Bool
managed_by_table entries s t e = is_manager (manager_by entries e (rows_of t)) s

abbrev pub part_by : ℕ → State → ℕ → List RankedRow
part_by entries t e = numbered_in entries e (rows_of t)

-- the rows of each entry with their ranks, and those of one entry among them
abbrev pub parts_by : ℕ → State → List (List RankedRow)
parts_by entries t = map (part_by entries t) (range_with_len 0 entries)

abbrev pub part_at : List (List RankedRow) → ℕ → List RankedRow
part_at parts e = get_or parts e []

-- whether a system has interest in an entry by a table
abbrev pub interest_by_table : ℕ → SysId → State → ℕ → Bool
interest_by_table entries s t e = has_elements entries e (rows_of t) s.0

-- those of one entry among the ranked rows of all
abbrev pub part_of : ℕ → ℕ → List RankedRow → List RankedRow
part_of entries e xs = filter (λ x. row_is_of entries e x.0) xs

-- ---- which tables, and which rows

-- In no list of a table does a task stand twice.
abbrev pub AreApart : State → Type 0
AreApart t = (r : Res) → is_apart (list_of t r) ≡ true

-- whether the ranks of rows are small
abbrev pub has_small_ranks : List RankedRow → Bool
has_small_ranks xs = list_all (λ n. nat_le n last_number) (ranks_of xs)

-- Each entry's part is one that its manager may keep.
abbrev pub AreLoadable : ℕ → List (List RankedRow) → Type 0
AreLoadable entries parts = (e : ℕ) → IsLoadable entries e (part_at parts e)
