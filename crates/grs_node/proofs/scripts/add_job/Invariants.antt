use Rattle.std.proofs.Common.{◌≡◌, ◌++◌, take}
use Rattle.grs_legal.specs.Asks.{scripts_in}
use Rattle.grs_node.proofs.scripts.add_job.Given as goal

abbrev pub invariant-loop-task : goal.invariant-loop-task
invariant-loop-task l = l.scripts.items ≡ l.fn.scripts.items ++ scripts_in l.job (take l.task-index l.tasks)
