use Rattle.std.proofs.Common.{◌≡◌, length}
use Rattle.grs_node.specs.Removal.{lose_each, members_below, standing}
use Rattle.grs_node.proofs.star.StarPart.lose_each.Given as goal

abbrev pub invariant-loop-number : goal.invariant-loop-number
invariant-loop-number l = record {
  step : standing l.tasks l.self ≡ lose_each (standing l.fn.tasks l.fn.self) (members_below l.systems l.number);
  system : l.tasks.system ≡ l.fn.tasks.system;
  count : length l.tasks.tasks ≡ length l.fn.tasks.tasks;
}
