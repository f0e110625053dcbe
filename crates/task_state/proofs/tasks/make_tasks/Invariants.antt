use Rattle.std.proofs.Common.{◌≡◌, take, sum}
use Rattle.task_state.specs.View.{new_tasks}
use Rattle.task_state.proofs.tasks.make_tasks.Given as goal

abbrev pub invariant-loop-count : goal.invariant-loop-count
invariant-loop-count l = l.tasks.items ≡ new_tasks (sum (take l.count-index l.jobs))
