use Rattle.std.proofs.Common.{◌≡◌, ◌+◌, length}
use Rattle.task_state.specs.Units.{unit_place}
use Rattle.task_state.proofs.units.place_of_unit.Given as goal

abbrev pub invariant-loop-count : goal.invariant-loop-count
invariant-loop-count l = record {
  found : l.place + unit_place l.unit l.rest ≡ unit_place l.unit l.counts;
  left : l.place + length l.rest ≡ length l.counts;
}

abbrev pub decreases-loop-count : goal.decreases-loop-count
decreases-loop-count l = length l.rest
