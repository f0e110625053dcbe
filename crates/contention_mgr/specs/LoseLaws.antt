-- Laws of what a manager keeps once a system is removed.
use Rattle.std.specs.Prelude.{◌≡◌, ℕ, Bool, true, false, not, ◌&&◌, ◌||◌, ◌==◌, List, [], ◌∷◌, map, filter, Option}
use Rattle.std.specs.List.{list_any, list_all, flat_map}
use Rattle.std.specs.Ordering.{is_lt}
use Rattle.grs_base.specs.ResOrder.{res_order}
use Rattle.grs_base.specs.Same.{same_res, same_task}
use Rattle.grs_base.specs.State.{State, list_of, pick, remove_state}
use Rattle.grs_base.specs.declared.resource.Elem.{Elem}
use Rattle.grs_base.specs.declared.resource.Res.{Res}
use Rattle.grs_base.specs.declared.resource.SysId.{SysId}
use Rattle.grs_base.specs.declared.resource.TaskId.{TaskId}
use Rattle.freed_owners.specs.Freed.{freed}
use Rattle.contention_mgr.specs.Elements.{holds}
use Rattle.contention_mgr.specs.Laws.{owns_by, untold_at, is_elsewhere, IsRanked, UntoldOwn, AreWellKept}
use Rattle.contention_mgr.specs.Loses.{stays, lost, gained, after_losing}
use Rattle.contention_mgr.specs.Manager.{Ranked, Managed, ManagerView, plain, items_of}

-- The plain lists are those of before without the elements of the removed system's tasks, in their order.
abbrev pub LostLists : Type 0
LostLists = (s n : ℕ) (m : Managed) → plain (lost s n m).items ≡ remove_state (plain m.items) n

-- Each element that stays keeps its rank.
abbrev pub without_mark : Ranked → Res × (Elem × ℕ)
without_mark x = (x.res, (x.elem, x.rank))

abbrev pub LostRanks : Type 0
LostRanks =
    (s n : ℕ) (m : Managed) → map without_mark (lost s n m).items ≡ map without_mark (filter (stays n) m.items)

-- Who owns and isn't of the removed system still owns.
abbrev pub LosingKeepsOwners : Type 0
LosingKeepsOwners =
    (s n : ℕ) (m : Managed) (r : Res) (t : TaskId) → (n == t.system.0) ≡ false → owns_by (plain m.items) r t ≡ true
    → owns_by (plain (lost s n m).items) r t ≡ true

-- Ranks still rise, and each who is still to be told owns and is of another system than the manager's.
abbrev pub LosingKeepsRanks : Type 0
LosingKeepsRanks = (s n : ℕ) (m : Managed) → IsRanked m → IsRanked (lost s n m)

abbrev pub LosingKeepsUntoldOwn : Type 0
LosingKeepsUntoldOwn = (s n : ℕ) (m : Managed) → UntoldOwn s m → UntoldOwn s (lost s n m)

-- So a manager keeps all entries as well as before.
abbrev pub LosingKeepsWell : Type 0
LosingKeepsWell = (v : ManagerView) (t : SysId) → AreWellKept v → AreWellKept (after_losing v t)

-- ---- who gets control

-- whether a task owns a resource by these lists once the elements of system n left them, and didn't before
abbrev pub is_freed : ℕ → State → Res → TaskId → Bool
is_freed n s r t = owns_by (remove_state s n) r t && not (owns_by s r t)

-- Those elements are still to be told that were, as far as they are left, and those whose tasks got control and are of
-- other systems than the manager's.
abbrev pub LostUntold : Type 0
LostUntold =
    (s n : ℕ) (m : Managed) (r : Res) (t : TaskId)
    → untold_at (lost s n m).items r t
    ≡ (holds (remove_state (plain m.items) n) r t
    && (untold_at m.items r t || (is_freed n (plain m.items) r t && is_elsewhere s r t)))

-- A task is given with a resource exactly where it is of the manager's own system and got control by the lists of an
-- entry.
abbrev pub GainedAreFreed : Type 0
GainedAreFreed =
    (v : ManagerView) (n : SysId) (r : Res) (t : TaskId)
    → list_any (λ p. same_task t p.0 && same_res r p.1) (gained v n)
    ≡ ((v.system.0 == t.system.0) && list_any (λ o. is_freed n.0 (plain (items_of o)) r t) v.entries)

-- No resource is shown before that of a pair in front of it.
abbrev pub in_name_order : List (TaskId × Res) → Bool
in_name_order [] = true
in_name_order (p ∷ ps) = list_all (λ q. not (is_lt (res_order q.1 p.1))) ps && in_name_order ps

abbrev pub GainedInOrder : Type 0
GainedInOrder = (v : ManagerView) (n : SysId) → in_name_order (gained v n) ≡ true

-- On a resource those of the manager's own system are given who get control of it, in the order of its list.
abbrev pub GainedOnList : Type 0
GainedOnList =
    (v : ManagerView) (n : SysId) (r : Res)
    → pick (λ p. same_res r p.1) (λ p. p.0) (gained v n)
    ≡ flat_map (λ o. filter (λ u. v.system.0 == u.system.0) (freed n.0 r (list_of (plain (items_of o)) r))) v.entries

-- ---- nothing to lose

-- whether no element of a task of system n is kept of an entry
abbrev pub is_without : ℕ → Option Managed → Bool
is_without n o = list_all (stays n) (items_of o)

-- Where no entry has one, the manager stays as it is, and nobody gets control.
abbrev pub LosingNothing : Type 0
LosingNothing =
    (v : ManagerView) (n : SysId) → list_all (is_without n.0) v.entries ≡ true
    → (after_losing v n ≡ v) × (gained v n ≡ [])
