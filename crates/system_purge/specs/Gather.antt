-- What systems have on record of a lock entry whose manager was lost: which records count, and in which order.
use Rattle.std.specs.Prelude.{◌≡◌, ℕ, Bool, true, not, ◌&&◌, ◌||◌, ◌==◌, nat_le, nat_lt, cond, List, [], ◌∷◌, ◌++◌}
use Rattle.std.specs.Prelude.{map, filter}
use Rattle.std.specs.List.{list_any, list_all, flat_map}
use Rattle.std.specs.List.Sorted.{IsPermutation}
use Rattle.grs_base.specs.Limits.{last_number}
use Rattle.grs_base.specs.Same.{same_res, same_task}
use Rattle.grs_base.specs.declared.resource.SysId.{SysId}
use Rattle.grs_base.specs.declared.resource.TaskId.{TaskId}
use Rattle.grs_wire.specs.declared.gather.PartRec.{PartRec}
use Rattle.lock_structure.specs.Entries.{entry_of_res, is_entry}
use Rattle.lock_structure.specs.RankedRows.{rises}
use Rattle.task_state.specs.View.{TasksView}
use Rattle.task_state.specs.declared.state.Rec.{Rec}
use Rattle.task_state.specs.declared.state.TaskState.{TaskState}

-- the ranks of records
abbrev pub ranks : List PartRec → List ℕ
ranks recs = map (λ r. r.rank) recs

-- a system's own records, and behind them those of the parts of others in order of arrival
abbrev pub all_of : List PartRec → List (List PartRec) → List PartRec
all_of own parts = own ++ flat_map (λ part. part) parts

-- Lists of the same records, of which the second is in the order of ranks, no two of which are equal.
pub record AreInOrder (recs sorted : List PartRec) : Type 0 where
  pub same : IsPermutation recs sorted
  pub rising : rises (ranks sorted) ≡ true

-- whether a record counts that a system sent of an entry, where there are so many entries: its resource is of the
-- entry, its task is of the system, and its rank isn't past the last number
abbrev pub is_of_part : ℕ → ℕ → SysId → PartRec → Bool
is_of_part entries e s r =
    is_entry e (entry_of_res entries r.res) && (r.task.system.0 == s.0) && nat_le r.rank last_number

-- whether only the first of two records counts: they have one rank, or are of one task and resource
abbrev pub clash : PartRec → PartRec → Bool
clash a b = (a.rank == b.rank) || (same_task a.task b.task && same_res a.res b.res)

-- with one record more, where it clashes with none that counts
abbrev pub with_counting : List PartRec → PartRec → List PartRec
with_counting recs r = cond (list_any (clash r) recs) recs (recs ++ r ∷ [])

-- those that count of records in order, behind some that do
abbrev pub counting_behind : List PartRec → List PartRec → List PartRec
counting_behind recs [] = recs
counting_behind recs (r ∷ rs) = counting_behind (with_counting recs r) rs

abbrev pub counting : List PartRec → List PartRec
counting rs = counting_behind [] rs

-- whether no two records clash
abbrev pub are_clear : List PartRec → Bool
are_clear [] = true
are_clear (r ∷ rs) = not (list_any (clash r) rs) && are_clear rs

-- the same records in the order of their ranks
abbrev pub placed : PartRec → List PartRec → List PartRec
placed r [] = r ∷ []
placed r (x ∷ xs) = cond (nat_lt r.rank x.rank) (r ∷ (x ∷ xs)) (x ∷ placed r xs)

abbrev pub by_rank : List PartRec → List PartRec
by_rank [] = []
by_rank (r ∷ rs) = placed r (by_rank rs)

-- what is gathered of an entry: a system's own records and those of the parts, as far as they count, by their ranks
abbrev pub gathered : List PartRec → List (List PartRec) → List PartRec
gathered own parts = by_rank (counting (all_of own parts))

-- ---- a system's own part

-- a record of a task, as a part tells of it
abbrev pub part_rec : TaskId → Rec → PartRec
part_rec t y = record { res = y.res; task = t; ctl = y.ctl; rank = y.rank; told = y.told }

-- what tasks have on record, each of which has one of these names, in their order
abbrev pub records_of : List TaskId → List TaskState → List PartRec
records_of [] xs = []
records_of (t ∷ ts) [] = []
records_of (t ∷ ts) (x ∷ xs) = map (part_rec t) x.records ++ records_of ts xs

-- what counts of this in an entry, where there are so many entries
abbrev pub part_of : ℕ → ℕ → List TaskId → TasksView → List PartRec
part_of entries e names v = filter (is_of_part entries e (record { 0 = v.system })) (records_of names v.tasks)

-- ---- laws

-- Records are in order in one way alone.
abbrev pub OrderIsOne : Type 0
OrderIsOne = (recs one other : List PartRec) → AreInOrder recs one → AreInOrder recs other → one ≡ other

-- Of those that count no two clash.
abbrev pub CountingAreClear : Type 0
CountingAreClear = (rs : List PartRec) → are_clear (counting rs) ≡ true

-- Where no two clash all count.
abbrev pub ClearAllCount : Type 0
ClearAllCount = (rs : List PartRec) → are_clear rs ≡ true → counting rs ≡ rs

-- Each record that doesn't count clashes with one that does.
abbrev pub NoneIsMissing : Type 0
NoneIsMissing = (rs : List PartRec) → list_all (λ r. list_any (clash r) (counting rs)) rs ≡ true

-- The first record counts.
abbrev pub FirstCounts : Type 0
FirstCounts =
    (r : PartRec) (rs : List PartRec) → (more : List PartRec) × (counting (r ∷ rs) ≡ r ∷ more)

-- What is gathered is in order.
abbrev pub GatheredInOrder : Type 0
GatheredInOrder =
    (own : List PartRec) (parts : List (List PartRec))
    → AreInOrder (counting (all_of own parts)) (gathered own parts)
