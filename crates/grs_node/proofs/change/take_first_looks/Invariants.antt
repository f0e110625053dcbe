use Rattle.std.proofs.Common.{◌≡◌, true, length}
use Rattle.grs_node.specs.Change.{one_by_one}
use Rattle.grs_node.specs.Node.{are_of_system}
use Rattle.grs_node.proofs.change.take_first_looks.Given as goal

abbrev pub invariant-loop-req : goal.invariant-loop-req
invariant-loop-req l = record {
  step : one_by_one l.tasks l.rest ≡ one_by_one l.fn.tasks l.reqs;
  own : are_of_system l.tasks.system (length l.tasks.tasks) l.rest ≡ true;
  system : l.tasks.system ≡ l.fn.tasks.system;
  count : length l.tasks.tasks ≡ length l.fn.tasks.tasks;
}

abbrev pub decreases-loop-req : goal.decreases-loop-req
decreases-loop-req l = length l.rest
