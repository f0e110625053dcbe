-- What callers see of the tasks of a system, and the words for what changes.
use Rattle.std.specs.Prelude.{ℕ, suc, zero, Bool, true, false, ◌&&◌, ◌==◌, nat_lt, List, [], ◌∷◌, ◌++◌, length, map}
use Rattle.std.specs.Prelude.{cond, Option, None, Some, slice_get, ◌+◌, get_or, set}
use Rattle.grs_base.specs.Same.{same_res}
use Rattle.grs_base.specs.declared.resource.Ctl.TheVariants.{E}
use Rattle.grs_base.specs.declared.resource.Res.{Res}
use Rattle.grs_base.specs.declared.resource.Row.{Row}
use Rattle.grs_base.specs.declared.resource.TaskId.{TaskId}
use Rattle.grs_wire.specs.declared.told.ToldLine.{ToldLine}
use Rattle.task_state.specs.declared.state.Asked.{Asked}
use Rattle.task_state.specs.declared.state.Rec.{Rec}
use Rattle.task_state.specs.declared.state.Phase.{Phase}
use Rattle.task_state.specs.declared.state.Phase.TheVariants.{Ready, Sent, Ending}
use Rattle.task_state.specs.declared.state.TaskState.{TaskState}

-- the number of the system, its tasks, and all lines that were told, in the order of telling
pub record TasksView : Type 0 where
  pub system : ℕ
  pub tasks : List TaskState
  pub told : List ToldLine

-- a task at the start
abbrev pub new_task : TaskState
new_task = record { line = 0; phase = Ready; code = 0; records = []; outstanding = None; rows = [] }

-- this many tasks at the start
abbrev pub new_tasks : ℕ → List TaskState
new_tasks zero = []
new_tasks (suc n) = new_task ∷ new_tasks n

-- whether a task in this phase has sent a request that isn't answered yet
abbrev pub is_sent : Phase → Bool
is_sent Sent = true
is_sent _ = false

-- whether a task is one of them
abbrev pub is_task : TasksView → TaskId → Bool
is_task v t = (v.system == t.system.0) && nat_lt t.task (length v.tasks)

-- how a task stands; one that isn't there stands as at the start
unfoldable pub state_of : TasksView → TaskId → TaskState
state_of v t = get_or v.tasks t.task new_task

-- one task changed
unfoldable pub with_state : TasksView → TaskId → (TaskState → TaskState) → TasksView
with_state v t f = record v { tasks = set v.tasks t.task (f (state_of v t)) }

-- the place of the first record of a resource, or the number of records
abbrev pub record_place : List Rec → Res → ℕ
record_place [] r = 0
record_place (x ∷ xs) r = cond (same_res r x.res) 0 (suc (record_place xs r))

-- the first record of a resource
abbrev pub record_of : List Rec → Res → Option Rec
record_of xs r = slice_get xs (record_place xs r)

-- with one more record behind the others, where there is none of its resource
abbrev pub with_last_by : Option Rec → List Rec → Rec → List Rec
with_last_by None xs new = xs ++ new ∷ []
with_last_by (Some x) xs new = xs

abbrev pub with_last : List Rec → Rec → List Rec
with_last xs new = with_last_by (record_of xs new.res) xs new

-- without the first record of a resource
abbrev pub without_first : List Rec → Res → List Rec
without_first [] r = []
without_first (x ∷ xs) r = cond (same_res r x.res) xs (x ∷ without_first xs r)

-- the end code of a task that goes to a phase
abbrev pub code_in : Phase → ℕ → ℕ
code_in (Ending c) old = c
code_in _ old = old

-- records with those of one resource changed
abbrev pub on_record : Res → (Rec → Rec) → List Rec → List Rec
on_record r f xs = map (λ x. cond (same_res r x.res) (f x) x) xs

-- a task that has taken one more line
unfoldable pub with_line : TasksView → TaskId → TasksView
with_line v t = with_state v t (λ x. record x { line = x.line + 1 })

-- a task in this phase; Ending also sets its end code
unfoldable pub with_phase : TasksView → TaskId → Phase → TasksView
with_phase v t p = with_state v t (λ x. record x { phase = p; code = code_in p x.code })

-- a task with this request outstanding
unfoldable pub with_outstanding : TasksView → TaskId → Option Asked → TasksView
with_outstanding v t q = with_state v t (λ x. record x { outstanding = q })

-- a task with one more record, behind the others; none is made of a resource of which it has one
unfoldable pub with_record : TasksView → TaskId → Rec → TasksView
with_record v t new = with_state v t (λ x. record x { records = with_last x.records new })

-- a task without its record of a resource
unfoldable pub without_record : TasksView → TaskId → Res → TasksView
without_record v t r = with_state v t (λ x. record x { records = without_first x.records r })

-- a task that was told control of a resource
unfoldable pub with_told : TasksView → TaskId → Res → TasksView
with_told v t r = with_state v t (λ x. record x { records = on_record r (λ y. record y { told = true }) x.records })

-- a task whose control of a resource is exclusive
unfoldable pub with_exclusive : TasksView → TaskId → Res → TasksView
with_exclusive v t r = with_state v t (λ x. record x { records = on_record r (λ y. record y { ctl = E }) x.records })

-- a task whose request for a resource has this rank
unfoldable pub with_rank : TasksView → TaskId → Res → ℕ → TasksView
with_rank v t r n = with_state v t (λ x. record x { records = on_record r (λ y. record y { rank = n }) x.records })

-- a task with these rows behind those of its display so far
unfoldable pub with_rows : TasksView → TaskId → List Row → TasksView
with_rows v t rs = with_state v t (λ x. record x { rows = x.rows ++ rs })

-- a task of whose display no rows are left
unfoldable pub without_rows : TasksView → TaskId → TasksView
without_rows v t = with_state v t (λ x. record x { rows = [] })

-- one more line told
unfoldable pub telling : TasksView → ToldLine → TasksView
telling v line = record v { told = v.told ++ line ∷ [] }
