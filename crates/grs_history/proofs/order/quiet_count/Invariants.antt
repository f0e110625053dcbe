use Rattle.std.proofs.Common.{◌≡◌, ◌+◌, drop}
use Rattle.grs_history.specs.Merge.{quiet_count}
use Rattle.grs_history.proofs.order.quiet_count.Given as goal

abbrev pub invariant-loop-place : goal.invariant-loop-place
invariant-loop-place l = l.place + quiet_count (drop l.place l.steps) ≡ quiet_count l.steps
