use Rattle.std.proofs.Common.{◌≡◌, ◌+◌, ◌++◌, drop, length}
use Rattle.deck_tasks.specs.Tasks.{tasks_in}
use Rattle.deck_tasks.proofs.tasks.put_tasks.Given as goal

abbrev pub invariant-loop-task : goal.invariant-loop-task
invariant-loop-task l =
    (l.task + length (drop l._task-index l.tasks) ≡ l.initial.first + length l.tasks)
    × (l.out ++ tasks_in l.system l.job l.task (drop l._task-index l.tasks)
    ≡ l.initial.out ++ tasks_in l.system l.job l.initial.first l.tasks)
