-- What a manager keeps once a system is removed: the elements of its tasks leave the lists, and those who get control
-- by that and are of other systems are still to be told.
use Rattle.std.specs.Prelude.{ℕ, Bool, not, ◌&&◌, ◌==◌, List, [], ◌∷◌, map, filter, Option}
use Rattle.std.specs.FinMap.{put}
use Rattle.std.specs.List.{flat_map}
use Rattle.std.specs.Option.{option_map}
use Rattle.grs_base.specs.ResOrder.{res_order}
use Rattle.grs_base.specs.Rows.{rows_of}
use Rattle.grs_base.specs.Same.{same_res}
use Rattle.grs_base.specs.State.{State, is_systems, pick}
use Rattle.grs_base.specs.declared.resource.Res.{Res}
use Rattle.grs_base.specs.declared.resource.SysId.{SysId}
use Rattle.grs_base.specs.declared.resource.TaskId.{TaskId}
use Rattle.freed_owners.specs.Freed.{freed}
use Rattle.contention_mgr.specs.Manager.{Ranked, Managed, ManagerView, plain, with_control, items_of}

-- ---- who gets control

-- a resource, and the tasks that get control of it, in the order of its list
abbrev pub Freed : Type 0
Freed = Res × List TaskId

-- by the lists of an entry, when the elements of system n leave them; resources in the order in which they are shown
abbrev pub freed_lists : ℕ → State → List Freed
freed_lists n s = map (λ x. (x.res, freed n x.res x.elems)) (rows_of s)

-- those of them who are of system s, each with the resource
abbrev pub own_freed : ℕ → Freed → List (TaskId × Res)
own_freed s f = pick (λ u. s == u.system.0) (λ u. (u, f.0)) f.1

-- of some tasks with resources: each resource with those that have it, as they stand, and the resources in the order in
-- which they are shown
abbrev pub on_each : List (TaskId × Res) → List (TaskId × Res) → List (Res × List (TaskId × Res))
on_each all [] = []
on_each all (p ∷ ps) = put res_order p.1 (filter (λ q. same_res p.1 q.1) all) (on_each all ps)

-- tasks with resources in the order in which their resources are shown
abbrev pub by_name : List (TaskId × Res) → List (TaskId × Res)
by_name ps = flat_map (λ e. e.1) (on_each ps ps)

-- of the lists of several entries, those of system s, in the order in which resources are shown
abbrev pub own_in_order : ℕ → List (List Freed) → List (TaskId × Res)
own_in_order s all = by_name (flat_map (λ fs. flat_map (own_freed s) fs) all)

-- what is freed in each entry
abbrev pub freed_at : ℕ → Option Managed → List Freed
freed_at n o = freed_lists n (plain (items_of o))

-- the tasks of the manager's own system that get control when t is removed, in the order in which they are told
abbrev pub gained : ManagerView → SysId → List (TaskId × Res)
gained v t = own_in_order v.system.0 (map (freed_at t.0) v.entries)

-- ---- what is kept

-- whether an element stays when system n is removed
abbrev pub stays : ℕ → Ranked → Bool
stays n x = not (is_systems x.res && (n == x.elem.task.system.0))

-- who got control of these resources and is of another system than s is still to be told
abbrev pub with_freed : ℕ → List Freed → List Ranked → List Ranked
with_freed s [] xs = xs
with_freed s (f ∷ fs) xs = with_freed s fs (with_control s f.0 f.1 xs)

-- an entry, at a manager of system s, and the manager behind the removal of system n
abbrev pub lost : ℕ → ℕ → Managed → Managed
lost s n m = record {
  next = m.next;
  items = with_freed s (freed_lists n (plain m.items)) (filter (stays n) m.items);
}

abbrev pub after_losing : ManagerView → SysId → ManagerView
after_losing v t = record { system = v.system; entries = map (option_map (lost v.system.0 t.0)) v.entries }
