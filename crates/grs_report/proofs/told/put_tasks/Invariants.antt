use Rattle.std.proofs.Common.{◌≡◌, ◌+◌, ◌++◌, drop, length}
use Rattle.grs_report.specs.Told.{tasks_text}
use Rattle.grs_report.proofs.told.put_tasks.Given as goal

abbrev pub invariant-loop-task : goal.invariant-loop-task
invariant-loop-task l =
    (l.place + length (drop l.task-index l.tasks) ≡ l.first.task + length l.tasks)
    × (l.out
    ++ tasks_text l.names l.told l.ended l.job.name l.first.system.0 l.first.job l.place (drop l.task-index l.tasks)
    ≡ l.initial.out ++ tasks_text l.names l.told l.ended l.job.name l.first.system.0 l.first.job l.first.task l.tasks)
