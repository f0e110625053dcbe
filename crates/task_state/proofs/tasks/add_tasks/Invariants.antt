use Rattle.std.proofs.Common.{◌≡◌, ◌++◌}
use Rattle.task_state.specs.View.{new_tasks}
use Rattle.task_state.proofs.tasks.add_tasks.Given as goal

abbrev pub invariant-loop : goal.invariant-loop
invariant-loop l = l.tasks.items ≡ l.fn.tasks.items ++ new_tasks l.counter
