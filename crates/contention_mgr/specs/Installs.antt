-- What an entry keeps of the records that were gathered of it.
use Rattle.std.specs.Prelude.{◌≡◌, ℕ, ◌+◌, Bool, true, not, ◌&&◌, ◌==◌, nat_le, List, [], ◌∷◌, map, take}
use Rattle.std.specs.List.{list_any, list_all, flat_map}
use Rattle.grs_base.specs.Limits.{last_number}
use Rattle.grs_base.specs.Lists.{owns, owners}
use Rattle.grs_base.specs.Rows.{rows_of}
use Rattle.grs_base.specs.Same.{same_res, same_task}
use Rattle.grs_base.specs.State.{State, list_of, pick}
use Rattle.grs_base.specs.declared.resource.Elem.{Elem}
use Rattle.grs_base.specs.declared.resource.Res.{Res}
use Rattle.grs_base.specs.declared.resource.Row.{Row}
use Rattle.grs_base.specs.declared.resource.TaskId.{TaskId}
use Rattle.grs_wire.specs.declared.gather.PartRec.{PartRec}
use Rattle.lock_structure.specs.Entries.{entry_of_res, is_entry}
use Rattle.lock_structure.specs.RankedRows.{rises}
use Rattle.contention_mgr.specs.Loads.{greatest}
use Rattle.contention_mgr.specs.Manager.{Ranked, Managed, ManagerView, plain, items_of, managed_at}

-- the element of a record, and the plain lists of records in their order
abbrev pub elem_of : PartRec → Elem
elem_of y = record { task = y.task; ctl = y.ctl }

abbrev pub lists_of : List PartRec → State
lists_of recs = map (λ y. (y.res, elem_of y)) recs

abbrev pub ranks_on : List PartRec → List ℕ
ranks_on recs = map (λ y. y.rank) recs

-- whether the task of a record is still to be told by its manager, which is of system s: it owns by the plain lists, is
-- of another system, and wasn't told
abbrev pub is_left : ℕ → State → PartRec → Bool
is_left s lists y = not y.told && not (s == y.task.system.0) && owns (list_of lists y.res) y.task

-- a record as an element that is kept
abbrev pub kept_of : ℕ → State → PartRec → Ranked
kept_of s lists y = record { res = y.res; elem = elem_of y; rank = y.rank; untold = is_left s lists y }

-- the entry of these records, in the order of their ranks: the next rank is the greatest plus one
abbrev pub installed : ℕ → List PartRec → Managed
installed s recs = record { next = greatest 0 (ranks_on recs) + 1; items = map (kept_of s (lists_of recs)) recs }

-- whether two records are of one task and resource, and whether no two of some are
abbrev pub one_place : PartRec → PartRec → Bool
one_place a b = same_res a.res b.res && same_task a.task b.task

abbrev pub places_apart : List PartRec → Bool
places_apart [] = true
places_apart (y ∷ ys) = not (list_any (one_place y) ys) && places_apart ys

-- Which records a manager may take for an entry, where there are so many entries.
pub record IsInstallable (entries e : ℕ) (recs : List PartRec) : Type 0 where
  -- each is of a resource of the entry, and no two are of one task and resource
  pub of_entry : list_all (λ y. is_entry e (entry_of_res entries y.res)) recs ≡ true
  pub apart : places_apart recs ≡ true
  -- their ranks rise, and none is past the last number
  pub rising : rises (ranks_on recs) ≡ true
  pub small : list_all (λ n. nat_le n last_number) (ranks_on recs) ≡ true

-- ---- who of the manager's own system owns

-- the tasks of system s that own by the list of a row, in its order, each with the resource
abbrev pub own_in : ℕ → Row → List (TaskId × Res)
own_in s x = pick (λ e. s == e.task.system.0) (λ e. (e.task, x.res)) (take (owners x.elems) x.elems)

-- those of an entry, resources in the order in which they are shown
abbrev pub own_owners : ManagerView → ℕ → List (TaskId × Res)
own_owners v e = flat_map (own_in v.system.0) (rows_of (plain (items_of (managed_at v e))))
