use Rattle.std.proofs.Common.{◌≡◌, length}
use Rattle.grs_node.specs.Change.{with_list_ranks}
use Rattle.grs_node.proofs.change.rank_list.Given as goal

abbrev pub invariant-loop-elem : goal.invariant-loop-elem
invariant-loop-elem l = record {
  step : with_list_ranks l.tasks l.res l.rest l.numbers ≡ with_list_ranks l.fn.tasks l.res l.elems l.ranks;
  system : l.tasks.system ≡ l.fn.tasks.system;
  count : length l.tasks.tasks ≡ length l.fn.tasks.tasks;
}

abbrev pub decreases-loop-elem : goal.decreases-loop-elem
decreases-loop-elem l = length l.rest
