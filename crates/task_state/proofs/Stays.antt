-- Which tasks there are stays through each change.
use Rattle.std.proofs.Common.{◌≡◌, ℕ, List, length, Option, refl, length-set}
use Rattle.grs_base.specs.declared.resource.TaskId.{TaskId}
use Rattle.grs_base.specs.declared.resource.Res.{Res}
use Rattle.grs_base.specs.declared.resource.Row.{Row}
use Rattle.grs_wire.specs.declared.told.ToldLine.{ToldLine}
use Rattle.task_state.specs.declared.state.Asked.{Asked}
use Rattle.task_state.specs.declared.state.Rec.{Rec}
use Rattle.task_state.specs.declared.state.Phase.{Phase}
use Rattle.task_state.specs.declared.state.TaskState.{TaskState}
use Rattle.task_state.specs.View.{TasksView, with_state, with_line, with_phase, with_outstanding, with_record}
use Rattle.task_state.specs.View.{without_record, with_told, with_exclusive, with_rank, with_rows, without_rows}
use Rattle.task_state.specs.View.{telling}

pub system-state : (v : TasksView) (t : TaskId) (f : TaskState → TaskState) → (with_state v t f).system ≡ v.system
unfolding with_state
system-state v t f = refl

pub count-state : (v : TasksView) (t : TaskId) (f : TaskState → TaskState)
    → length (with_state v t f).tasks ≡ length v.tasks
unfolding with_state
count-state v t f = length-set _ _ _

pub system-line : (v : TasksView) (t : TaskId) → (with_line v t).system ≡ v.system
unfolding with_line
system-line v t = system-state v t _

pub count-line : (v : TasksView) (t : TaskId) → length (with_line v t).tasks ≡ length v.tasks
unfolding with_line
count-line v t = count-state v t _

pub system-phase : (v : TasksView) (t : TaskId) (p : Phase) → (with_phase v t p).system ≡ v.system
unfolding with_phase
system-phase v t p = system-state v t _

pub count-phase : (v : TasksView) (t : TaskId) (p : Phase) → length (with_phase v t p).tasks ≡ length v.tasks
unfolding with_phase
count-phase v t p = count-state v t _

pub system-outstanding : (v : TasksView) (t : TaskId) (q : Option Asked) → (with_outstanding v t q).system ≡ v.system
unfolding with_outstanding
system-outstanding v t q = system-state v t _

pub count-outstanding : (v : TasksView) (t : TaskId) (q : Option Asked)
    → length (with_outstanding v t q).tasks ≡ length v.tasks
unfolding with_outstanding
count-outstanding v t q = count-state v t _

pub system-record : (v : TasksView) (t : TaskId) (x : Rec) → (with_record v t x).system ≡ v.system
unfolding with_record
system-record v t x = system-state v t _

pub count-record : (v : TasksView) (t : TaskId) (x : Rec) → length (with_record v t x).tasks ≡ length v.tasks
unfolding with_record
count-record v t x = count-state v t _

pub system-without : (v : TasksView) (t : TaskId) (r : Res) → (without_record v t r).system ≡ v.system
unfolding without_record
system-without v t r = system-state v t _

pub count-without : (v : TasksView) (t : TaskId) (r : Res) → length (without_record v t r).tasks ≡ length v.tasks
unfolding without_record
count-without v t r = count-state v t _

pub system-told : (v : TasksView) (t : TaskId) (r : Res) → (with_told v t r).system ≡ v.system
unfolding with_told
system-told v t r = system-state v t _

pub count-told : (v : TasksView) (t : TaskId) (r : Res) → length (with_told v t r).tasks ≡ length v.tasks
unfolding with_told
count-told v t r = count-state v t _

pub system-exclusive : (v : TasksView) (t : TaskId) (r : Res) → (with_exclusive v t r).system ≡ v.system
unfolding with_exclusive
system-exclusive v t r = system-state v t _

pub count-exclusive : (v : TasksView) (t : TaskId) (r : Res) → length (with_exclusive v t r).tasks ≡ length v.tasks
unfolding with_exclusive
count-exclusive v t r = count-state v t _

pub system-rank : (v : TasksView) (t : TaskId) (r : Res) (n : ℕ) → (with_rank v t r n).system ≡ v.system
unfolding with_rank
system-rank v t r n = system-state v t _

pub count-rank : (v : TasksView) (t : TaskId) (r : Res) (n : ℕ) → length (with_rank v t r n).tasks ≡ length v.tasks
unfolding with_rank
count-rank v t r n = count-state v t _

pub system-rows : (v : TasksView) (t : TaskId) (rs : List Row) → (with_rows v t rs).system ≡ v.system
unfolding with_rows
system-rows v t rs = system-state v t _

pub count-rows : (v : TasksView) (t : TaskId) (rs : List Row) → length (with_rows v t rs).tasks ≡ length v.tasks
unfolding with_rows
count-rows v t rs = count-state v t _

pub system-no_rows : (v : TasksView) (t : TaskId) → (without_rows v t).system ≡ v.system
unfolding without_rows
system-no_rows v t = system-state v t _

pub count-no_rows : (v : TasksView) (t : TaskId) → length (without_rows v t).tasks ≡ length v.tasks
unfolding without_rows
count-no_rows v t = count-state v t _

pub system-telling : (v : TasksView) (l : ToldLine) → (telling v l).system ≡ v.system
unfolding telling
system-telling v l = refl

pub count-telling : (v : TasksView) (l : ToldLine) → length (telling v l).tasks ≡ length v.tasks
unfolding telling
count-telling v l = refl

pub ruleset stays = (
  system-line,
  count-line,
  system-phase,
  count-phase,
  system-outstanding,
  count-outstanding,
  system-record,
  count-record,
  system-without,
  count-without,
  system-told,
  count-told,
  system-exclusive,
  count-exclusive,
  system-rank,
  count-rank,
  system-rows,
  count-rows,
  system-no_rows,
  count-no_rows,
  system-telling,
  count-telling,
)
