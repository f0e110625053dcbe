use Rattle.std.proofs.Common.{◌≡◌, ◌++◌, drop, map}
use Rattle.grs_display.specs.Lines.{spaced}
use Rattle.grs_display.specs.Names.{task_word}
use Rattle.grs_analyze.proofs.text.put_tasks.Given as goal

abbrev pub invariant-loop-task : goal.invariant-loop-task
invariant-loop-task l =
    l.out ++ spaced (map (task_word l.names) (drop l.task-index l.tasks))
    ≡ l.initial.out ++ spaced (map (task_word l.names) l.tasks)
