-- Laws of an entry that is made of the records that were gathered of it.
use Rattle.std.specs.Prelude.{◌≡◌, ℕ, true, ◌&&◌, List, Some, length}
use Rattle.std.specs.List.{list_any}
use Rattle.grs_base.specs.Same.{same_res, same_task}
use Rattle.grs_base.specs.declared.resource.Res.{Res}
use Rattle.grs_base.specs.declared.resource.TaskId.{TaskId}
use Rattle.grs_wire.specs.declared.gather.PartRec.{PartRec}
use Rattle.contention_mgr.specs.Installs.{lists_of, is_left, installed, IsInstallable}
use Rattle.contention_mgr.specs.Laws.{AreWellKept, untold_at}
use Rattle.contention_mgr.specs.Manager.{ManagerView, plain, with_entry}

-- The plain lists of the entry are those of the records, which are in the order of their ranks.
abbrev pub InstalledLists : Type 0
InstalledLists = (s : ℕ) (recs : List PartRec) → plain (installed s recs).items ≡ lists_of recs

-- Those are still to be told who own by the records, are of other systems than the manager, and weren't told.
abbrev pub InstalledUntold : Type 0
InstalledUntold =
    (s : ℕ) (recs : List PartRec) (r : Res) (t : TaskId)
    → untold_at (installed s recs).items r t
    ≡ list_any (λ y. same_res r y.res && same_task t y.task && is_left s (lists_of recs) y) recs

-- Ranks rise in the entry, and each who is still to be told owns and is of another system.
abbrev pub InstalledAreWellKept : Type 0
InstalledAreWellKept =
    (v : ManagerView) (e : ℕ) (recs : List PartRec) → IsInstallable (length v.entries) e recs → AreWellKept v
    → AreWellKept (with_entry v (Some e) (Some (installed v.system.0 recs)))
