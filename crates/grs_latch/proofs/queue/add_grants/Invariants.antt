use Rattle.std.proofs.Common.{◌≡◌, ◌++◌, drop}
use Rattle.grs_latch.specs.Latches.{grants_at}
use Rattle.grs_latch.proofs.queue.add_grants.Given as goal

abbrev pub invariant-loop-task : goal.invariant-loop-task
invariant-loop-task l =
    l.grants ++ grants_at l.set l.latch (drop l.task-index l.tasks)
    ≡ l.initial.grants ++ grants_at l.set l.latch l.tasks
