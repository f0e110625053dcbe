-- Laws of what a manager keeps.
use Rattle.std.specs.Prelude.{◌≡◌, ℕ, Bool, true, false, not, ◌&&◌, ◌||◌, ◌==◌, ◌<◌, nat_lt, List, [], ◌∷◌, length}
use Rattle.std.specs.Prelude.{replicate, Some, None, is_some, slice_get}
use Rattle.std.specs.List.{list_all, list_any}
use Rattle.std.specs.Ordering.{is_lt}
use Rattle.grs_base.specs.Lists.{owns}
use Rattle.grs_base.specs.ResOrder.{res_order}
use Rattle.grs_base.specs.Same.{same_res, same_task}
use Rattle.grs_base.specs.State.{State, list_of}
use Rattle.grs_base.specs.declared.resource.Res.{Res}
use Rattle.grs_base.specs.declared.resource.SysId.{SysId}
use Rattle.grs_base.specs.declared.resource.TaskId.{TaskId}
use Rattle.grs_wire.specs.Wants.{after_want}
use Rattle.grs_wire.specs.declared.request.Want.{Want}
use Rattle.contention_mgr.specs.Loads.{loaded}
use Rattle.lock_structure.specs.RankedRows.{RankedRow, IsLoadable}
use Rattle.contention_mgr.specs.Manager.{Ranked, Managed, ManagerView, plain, no_elements, is_of, with_mark, settled}
use Rattle.contention_mgr.specs.Manager.{told, is_untold, any_untold_in, first_untold, entry_wanted, managed_at}
use Rattle.contention_mgr.specs.Manager.{with_entry, after_request, after_telling}
use Rattle.contention_mgr.specs.Elements.{holds}

-- The plain lists of an entry after a request are what the request makes of them.
abbrev pub ListsFollow : Type 0
ListsFollow =
    (s : ℕ) (m : Managed) (t : TaskId) (w : Want) → plain (settled s m t w).items ≡ after_want (plain m.items) t w

-- Telling an owner leaves the plain lists.
abbrev pub TellingKeepsLists : Type 0
TellingKeepsLists =
    (untold : Bool) (r : Res) (t : TaskId) (xs : List Ranked) → plain (with_mark untold r t xs) ≡ plain xs

-- whether the ranks on each resource rise, so that the order of a list is that of its ranks
abbrev pub by_rank : List Ranked → Bool
by_rank [] = true
by_rank (x ∷ xs) = list_all (λ y. not (same_res x.res y.res) || nat_lt x.rank y.rank) xs && by_rank xs

-- ranks rise, and none was given that is still to come
pub record IsRanked (m : Managed) : Type 0 where
  pub rising : by_rank m.items ≡ true
  pub below : list_all (λ x. nat_lt x.rank m.next) m.items ≡ true

-- Ranks rise where nothing stands in the lists, and where an entry is loaded.
abbrev pub RanksBegin : Type 0
RanksBegin = IsRanked no_elements

abbrev pub LoadedRanksRise : Type 0
LoadedRanksRise = (entries e : ℕ) (xs : List RankedRow) → IsLoadable entries e xs → IsRanked (loaded xs)

-- They still do behind each request, and once an owner was told.
abbrev pub RanksRise : Type 0
RanksRise = (s : ℕ) (m : Managed) (t : TaskId) (w : Want) → IsRanked m → IsRanked (settled s m t w)

abbrev pub TellingKeepsRanks : Type 0
TellingKeepsRanks = (t : TaskId) (r : Res) (m : Managed) → IsRanked m → IsRanked (told t r m)

-- The first owner to be told is found exactly where there is one.
abbrev pub FirstIsAny : Type 0
FirstIsAny = (home : ℕ) (xs : List Ranked) → is_some (first_untold home xs) ≡ any_untold_in home xs

-- That owner stands among the elements, is of another system, and is still to be told.
abbrev pub FirstIsUntold : Type 0
FirstIsUntold =
    (home : ℕ) (xs : List Ranked) (x : Ranked) → first_untold home xs ≡ Some x
    → (i : ℕ) × (slice_get xs i ≡ Some x) × (is_untold home x ≡ true)

-- An element stands at a place. Each owner of another system who is still to be told has a resource that isn't shown
-- before its own, and each of them who stands before that place has one that is shown after it.
pub record IsFirst (home : ℕ) (xs : List Ranked) (x : Ranked) : Type 0 where
  pub place : ℕ
  pub there : slice_get xs place ≡ Some x
  pub least : (i : ℕ) (y : Ranked) → slice_get xs i ≡ Some y → is_untold home y ≡ true
      → is_lt (res_order y.res x.res) ≡ false
  pub first : (i : ℕ) (y : Ranked) → i < place → slice_get xs i ≡ Some y → is_untold home y ≡ true
      → is_lt (res_order x.res y.res) ≡ true

-- So does that owner: who is told first has the resource that is shown first, and there the first place in the list.
abbrev pub FirstIsLeast : Type 0
FirstIsLeast = (home : ℕ) (xs : List Ranked) (x : Ranked) → first_untold home xs ≡ Some x → IsFirst home xs x

-- ---- who is still to be told

-- whether each element that is still to be told passes a test of its resource and its task
abbrev pub untold_pass : (Res → TaskId → Bool) → List Ranked → Bool
untold_pass test xs = list_all (λ x. not x.untold || test x.res x.elem.task) xs

-- whether a task owns a resource by the plain lists, and whether it is of another system than this one
abbrev pub owns_by : State → Res → TaskId → Bool
owns_by s r t = owns (list_of s r) t

abbrev pub is_elsewhere : ℕ → Res → TaskId → Bool
is_elsewhere system r t = not (system == t.system.0)

-- each element that is still to be told owns by the plain lists of its entry, and is of another system than the
-- manager's
pub record UntoldOwn (system : ℕ) (m : Managed) : Type 0 where
  pub own : untold_pass (owns_by (plain m.items)) m.items ≡ true
  pub elsewhere : untold_pass (is_elsewhere system) m.items ≡ true

-- So it is where nothing stands in the lists, and where an entry is loaded.
abbrev pub UntoldOwnBegins : Type 0
UntoldOwnBegins = (system : ℕ) → UntoldOwn system no_elements

abbrev pub LoadedUntoldOwn : Type 0
LoadedUntoldOwn = (system : ℕ) (xs : List RankedRow) → UntoldOwn system (loaded xs)

-- It still is behind each request, and once an owner was told.
abbrev pub UntoldStayOwners : Type 0
UntoldStayOwners =
    (system : ℕ) (m : Managed) (t : TaskId) (w : Want) → UntoldOwn system m → UntoldOwn system (settled system m t w)

abbrev pub TellingKeepsUntoldOwn : Type 0
TellingKeepsUntoldOwn =
    (system : ℕ) (t : TaskId) (r : Res) (m : Managed) → UntoldOwn system m → UntoldOwn system (told t r m)

-- Who is found to be told first owns.
abbrev pub FirstUntoldOwns : Type 0
FirstUntoldOwns =
    (system home : ℕ) (m : Managed) (x : Ranked) → UntoldOwn system m → first_untold home m.items ≡ Some x
    → owns_by (plain m.items) x.res x.elem.task ≡ true

-- whether a task's element on a resource is still to be told
abbrev pub untold_at : List Ranked → Res → TaskId → Bool
untold_at xs r t = list_any (λ x. is_of r t x && x.untold) xs

-- whether a task of another system than this one, which isn't the asker, owns a resource afterwards and didn't before
abbrev pub gains : ℕ → State → State → TaskId → Res → TaskId → Bool
gains system before after asker r t =
    owns_by after r t && not (owns_by before r t) && not (same_task asker t) && is_elsewhere system r t

-- Behind a request those elements are still to be told that were, as far as they are left, and those that gained
-- control by it at other systems than the manager's.
abbrev pub UntoldFollow : Type 0
UntoldFollow = (system : ℕ) (m : Managed) (t : TaskId) (w : Want) (r : Res) (u : TaskId) →
    untold_at (settled system m t w).items r u
    ≡ (holds (after_want (plain m.items) t w) r u
    && (untold_at m.items r u || gains system (plain m.items) (after_want (plain m.items) t w) t r u))

-- So who gains control at another system is still to be told.
abbrev pub GainersAreUntold : Type 0
GainersAreUntold =
    (system : ℕ) (m : Managed) (t : TaskId) (w : Want) (r : Res) (u : TaskId)
    → gains system (plain m.items) (after_want (plain m.items) t w) t r u ≡ true
    → untold_at (settled system m t w).items r u ≡ true

-- Who was told no longer is, and all others are as they were; of an entry that is loaded nobody is.
abbrev pub TellingTells : Type 0
TellingTells =
    (t : TaskId) (r : Res) (m : Managed) (q : Res) (u : TaskId)
    → untold_at (told t r m).items q u ≡ (untold_at m.items q u && not (same_res r q && same_task t u))

abbrev pub LoadedAreTold : Type 0
LoadedAreTold = (xs : List RankedRow) (r : Res) (t : TaskId) → untold_at (loaded xs).items r t ≡ false

-- A request leaves what is kept of other entries than its own.
abbrev pub OthersStay : Type 0
OthersStay =
    (v : ManagerView) (t : TaskId) (w : Want) (e : ℕ) → (entry_wanted (length v.entries) w ≡ Some e → ⊥)
    → managed_at (after_request v t w) e ≡ managed_at v e

-- ---- all entries of a manager

-- ranks rise, and each who is still to be told owns and is of another system
pub record IsWellKept (system : ℕ) (m : Managed) : Type 0 where
  pub ranked : IsRanked m
  pub untold : UntoldOwn system m

-- so of each entry that is managed
abbrev pub AreWellKept : ManagerView → Type 0
AreWellKept v = (e : ℕ) (m : Managed) → managed_at v e ≡ Some m → IsWellKept v.system.0 m

-- It is so at first, where an entry is begun, loaded or given up, behind each request, and once an owner was told.
abbrev pub WellKeptBegins : Type 0
WellKeptBegins =
    (system : SysId) (entries : ℕ) → AreWellKept (record { system = system; entries = replicate entries None })

abbrev pub EntriesAreWellKept : Type 0
EntriesAreWellKept = (v : ManagerView) (e : ℕ) → AreWellKept v →
    AreWellKept (with_entry v (Some e) (Some no_elements)) × AreWellKept (with_entry v (Some e) None)
    × ((xs : List RankedRow) → IsLoadable (length v.entries) e xs
    → AreWellKept (with_entry v (Some e) (Some (loaded xs))))

abbrev pub RequestsKeepWell : Type 0
RequestsKeepWell = (v : ManagerView) (t : TaskId) (w : Want) → AreWellKept v → AreWellKept (after_request v t w)

abbrev pub TellingKeepsWell : Type 0
TellingKeepsWell = (v : ManagerView) (t : TaskId) (r : Res) → AreWellKept v → AreWellKept (after_telling v t r)
