use Rattle.std.proofs.Common.{◌≡◌, ◌++◌, drop}
use Rattle.contention_mgr.specs.Loses.{own_freed}
use Rattle.contention_mgr.proofs.lose.add_own.Given as goal

abbrev pub invariant-loop-task : goal.invariant-loop-task
invariant-loop-task l =
    l.owners ++ own_freed l.system.0 (l.res, drop l.task-index l.tasks)
    ≡ l.initial.owners ++ own_freed l.system.0 (l.res, l.tasks)
