use Rattle.std.proofs.Common.{◌≡◌, ◌++◌, drop}
use Rattle.grs_world.specs.Running.{nodes_of}
use Rattle.grs_top.specs.Tasks.{ends_at}
use Rattle.grs_top.proofs.ends.ends_at.Given as goal

abbrev pub invariant-loop-task : goal.invariant-loop-task
invariant-loop-task l =
    l.ends ++ ends_at l.removed (nodes_of l.nodes) (drop l.task-index l.tasks)
    ≡ ends_at l.removed (nodes_of l.nodes) l.tasks
