use Rattle.std.proofs.Common.{◌≡◌, length}
use Rattle.task_state.specs.Units.{reserved_of, counting_all, counted}
use Rattle.task_state.proofs.units.count_units.Given as goal

abbrev pub invariant-loop-task : goal.invariant-loop-task
invariant-loop-task l = counting_all l.counts.items (reserved_of l.rest) ≡ counted (reserved_of l.tasks)

abbrev pub decreases-loop-task : goal.decreases-loop-task
decreases-loop-task l = length l.rest
