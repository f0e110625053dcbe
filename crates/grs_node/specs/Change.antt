-- What a system comes to in star mode by its table of the Systems resources: its part there, and its tasks, whose
-- records get ranks and whose requests wait to be sent each by itself.
use Rattle.std.specs.Prelude.{ℕ, ◌+◌, ◌-◌, Bool, ◌==◌, min, cond, List, [], ◌∷◌, map, replicate, Option, Some, None}
use Rattle.std.specs.List.{list_any, range_with_len}
use Rattle.std.specs.Option.{option_map}
use Rattle.contention_mgr.specs.Loads.{loaded}
use Rattle.contention_mgr.specs.Manager.{Managed, ManagerView, with_entry}
use Rattle.grs_base.specs.State.{State}
use Rattle.grs_base.specs.declared.resource.Elem.{Elem}
use Rattle.grs_base.specs.declared.resource.Res.{Res}
use Rattle.grs_base.specs.declared.resource.SysId.{SysId}
use Rattle.grs_base.specs.declared.resource.TaskId.{TaskId}
use Rattle.grs_wire.specs.declared.request.Req.{Req}
use Rattle.grs_wire.specs.declared.request.Want.{Want}
use Rattle.grs_wire.specs.declared.request.Want.TheVariants.{Enq, Deq, Release, Look}
use Rattle.lock_structure.specs.RankedRows.{RankedRow}
use Rattle.mode_migrate.specs.Migrate.{managed_by_table, part_by, interest_by_table, part_at}
use Rattle.grs_node.specs.Star.{StarPart}
use Rattle.task_state.specs.View.{TasksView, is_task, state_of, with_rank, with_outstanding}
use Rattle.task_state.specs.declared.state.Asked.{Asked}
use Rattle.task_state.specs.declared.state.Showing.{Showing}

-- ---- the part of a system

-- what a system keeps of an entry as its manager, if it manages it by the table; all who own count as told
abbrev pub entry_by_table : ℕ → SysId → State → ℕ → Option Managed
entry_by_table entries s t e = cond (managed_by_table entries s t e) (Some (loaded (part_by entries t e))) None

-- the part of a system, where there are so many entries
abbrev pub part_by_table : ℕ → SysId → State → StarPart
part_by_table entries s t = record {
  manager = record { system = s; entries = map (entry_by_table entries s t) (range_with_len 0 entries) };
  gathers = replicate entries None;
  owes = replicate entries None;
  held = [];
  interest = map (interest_by_table entries s t) (range_with_len 0 entries);
}

-- ---- the same by what a system is told of its table: which entries it manages, in which it has interest, and the
-- rows of each entry with their ranks

-- whether an entry is one of these
abbrev pub is_among : List ℕ → ℕ → Bool
is_among es e = list_any (λ k. k == e) es

-- what a system keeps of an entry
abbrev pub entry_by_roles : List ℕ → List (List RankedRow) → ℕ → Option Managed
entry_by_roles managed parts e = cond (is_among managed e) (Some (loaded (part_at parts e))) None

-- a manager that has taken an entry over, if it is to
abbrev pub with_entry_by : ManagerView → List ℕ → List (List RankedRow) → ℕ → ManagerView
with_entry_by m managed parts e =
    cond (is_among managed e) (with_entry m (Some e) (Some (loaded (part_at parts e)))) m

-- the part of a system
abbrev pub part_by_roles : ℕ → SysId → List ℕ → List ℕ → List (List RankedRow) → StarPart
part_by_roles entries s managed interest parts = record {
  manager = record { system = s; entries = map (entry_by_roles managed parts) (range_with_len 0 entries) };
  gathers = replicate entries None;
  owes = replicate entries None;
  held = [];
  interest = map (is_among interest) (range_with_len 0 entries);
}

-- ---- its tasks

-- a task's record of a resource gets the rank of its element there, where the task is of this system
abbrev pub with_rank_by : TasksView → Res → TaskId → ℕ → TasksView
with_rank_by v r t n = cond (is_task v t) (with_rank v t r n) v

-- the same of the elements of a list, with their ranks
abbrev pub with_list_ranks : TasksView → Res → List Elem → List ℕ → TasksView
with_list_ranks v r [] ns = v
with_list_ranks v r (x ∷ xs) [] = v
with_list_ranks v r (x ∷ xs) (n ∷ ns) = with_list_ranks (with_rank_by v r x.task n) r xs ns

-- the same of the lists of all resources
abbrev pub with_ranks : TasksView → List RankedRow → TasksView
with_ranks v [] = v
with_ranks v (x ∷ xs) = with_ranks (with_list_ranks v x.0.res x.0.elems x.1) xs

-- of looks at several slices the first, behind which the others are left
abbrev pub more_left : ℕ → Showing → Showing
more_left n s = record { verb = s.verb; left = s.left + n }

abbrev pub first_look : Asked → Want → Asked
first_look a (Enq r c ret full) = a
first_look a (Deq r have) = a
first_look a (Release r) = a
first_look a (Look first count f) = record {
  req = record { task = a.req.task; want = Look first (min count 1) f };
  unit = a.unit;
  showing = option_map (more_left (count - 1)) a.showing;
}

-- A request that waited to be put into the message waits to be sent: looks go one by one, the first of them first.
abbrev pub with_first_look : TasksView → TaskId → Want → TasksView
with_first_look v t (Enq r c ret full) = v
with_first_look v t (Deq r have) = v
with_first_look v t (Release r) = v
with_first_look v t (Look first count f) =
    with_outstanding v t (option_map (λ a. first_look a a.req.want) (state_of v t).outstanding)

-- the same of all requests of an outbox
abbrev pub one_by_one : TasksView → List Req → TasksView
one_by_one v [] = v
one_by_one v (q ∷ qs) = one_by_one (with_first_look v q.task q.want) qs
