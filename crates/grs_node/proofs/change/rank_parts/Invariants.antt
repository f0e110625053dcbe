use Rattle.std.proofs.Common.{◌≡◌, length}
use Rattle.std.specs.List.{flat_map}
use Rattle.grs_node.specs.Change.{with_ranks}
use Rattle.grs_node.proofs.change.rank_parts.Given as goal

abbrev pub invariant-loop-part : goal.invariant-loop-part
invariant-loop-part l = record {
  step : with_ranks l.tasks (flat_map (λ part. part) l.rest) ≡ with_ranks l.fn.tasks (flat_map (λ part. part) l.parts);
  system : l.tasks.system ≡ l.fn.tasks.system;
  count : length l.tasks.tasks ≡ length l.fn.tasks.tasks;
}

abbrev pub decreases-loop-part : goal.decreases-loop-part
decreases-loop-part l = length l.rest
