use Rattle.std.proofs.Common.{◌≡◌, ◌++◌, drop}
use Rattle.grs_display.specs.Names.{names_of_tasks}
use Rattle.grs_display.proofs.names.put_task_names.Given as goal

abbrev pub invariant-loop-task : goal.invariant-loop-task
invariant-loop-task l =
    l.out ++ names_of_tasks (drop l.task-index l.tasks) ≡ l.initial.out ++ names_of_tasks l.tasks
