-- Whose elements a manager keeps.
use Rattle.std.specs.Prelude.{◌≡◌, ℕ, Bool, true, false, ◌||◌, List, [], ◌∷◌, Option}
use Rattle.std.specs.List.{list_all}
use Rattle.grs_base.specs.Same.{same_res}
use Rattle.grs_base.specs.State.{State, is_at}
use Rattle.grs_base.specs.declared.resource.Res.{Res}
use Rattle.grs_base.specs.declared.resource.SysId.{SysId}
use Rattle.grs_base.specs.declared.resource.TaskId.{TaskId}
use Rattle.grs_wire.specs.declared.gather.PartRec.{PartRec}
use Rattle.grs_wire.specs.declared.request.Want.{Want}
use Rattle.contention_mgr.specs.Installs.{installed}
use Rattle.contention_mgr.specs.Loses.{after_losing}
use Rattle.contention_mgr.specs.Manager.{Ranked, Managed, ManagerView, items_of, after_request, after_telling}

-- whether a task has an element on a resource
abbrev pub holds : State → Res → TaskId → Bool
holds [] r t = false
holds (h ∷ hs) r t = is_at same_res r t h || holds hs r t

-- whether the task of each element is such a one, of one entry and of all
abbrev pub elements_of : (TaskId → Bool) → List Ranked → Bool
elements_of p xs = list_all (λ x. p x.elem.task) xs

abbrev pub all_of : (TaskId → Bool) → List (Option Managed) → Bool
all_of p entries = list_all (λ o. elements_of p (items_of o)) entries

-- The elements after a request are of tasks that had one before it, or of the asker.
abbrev pub ElementsAreAskers : Type 0
ElementsAreAskers =
    (p : TaskId → Bool) (v : ManagerView) (t : TaskId) (w : Want) → p t ≡ true → all_of p v.entries ≡ true
    → all_of p (after_request v t w).entries ≡ true

-- Telling an owner adds none.
abbrev pub TellingKeepsElements : Type 0
TellingKeepsElements =
    (p : TaskId → Bool) (v : ManagerView) (t : TaskId) (r : Res) → all_of p v.entries ≡ true
    → all_of p (after_telling v t r).entries ≡ true

-- Nor does the loss of a system.
abbrev pub LosingKeepsElements : Type 0
LosingKeepsElements =
    (p : TaskId → Bool) (v : ManagerView) (t : SysId) → all_of p v.entries ≡ true
    → all_of p (after_losing v t).entries ≡ true

-- The elements of an entry that is made of records are of their tasks.
abbrev pub InstalledAreRecords : Type 0
InstalledAreRecords =
    (p : TaskId → Bool) (s : ℕ) (recs : List PartRec) → list_all (λ y. p y.task) recs ≡ true
    → elements_of p (installed s recs).items ≡ true
