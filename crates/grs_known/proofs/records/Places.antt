-- Tasks by their places in a system.
use Rattle.std.proofs.Common.{◌≡◌, ap}
use Rattle.std.specs.Prelude.{get_or}
use Rattle.grs_base.specs.declared.resource.TaskId.{TaskId}
use Rattle.task_state.specs.View.{TasksView, state_of, new_task}

-- two tasks at one place stand alike
pub state_at : (v : TasksView) (t u : TaskId) → t.task ≡ u.task → state_of v t ≡ state_of v u
unfolding state_of
state_at v t u e = ap (λ i. get_or v.tasks i new_task) e
