use Rattle.std.proofs.Common.{◌≡◌, length}
use Rattle.grs_node.specs.Change.{with_ranks}
use Rattle.grs_node.proofs.change.rank_all.Given as goal

abbrev pub invariant-loop-row : goal.invariant-loop-row
invariant-loop-row l = record {
  step : with_ranks l.tasks l.rest ≡ with_ranks l.fn.tasks l.ranked;
  system : l.tasks.system ≡ l.fn.tasks.system;
  count : length l.tasks.tasks ≡ length l.fn.tasks.tasks;
}

abbrev pub decreases-loop-row : goal.decreases-loop-row
decreases-loop-row l = length l.rest
