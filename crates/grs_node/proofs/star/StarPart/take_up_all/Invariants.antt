use Rattle.std.proofs.Common.{◌≡◌, length}
use Rattle.grs_node.specs.Removal.{take_up_below, standing, IsOrderly}
use Rattle.grs_node.proofs.star.StarPart.take_up_all.Given as goal

abbrev pub invariant-loop-entry : goal.invariant-loop-entry
invariant-loop-entry l = record {
  step : standing l.tasks l.self ≡ take_up_below l.names (standing l.fn.tasks l.fn.self) l.entry;
  entries : length l.self.manager.entries ≡ length l.fn.self.manager.entries;
  orderly : IsOrderly l.self;
  system : l.tasks.system ≡ l.fn.tasks.system;
  count : length l.tasks.tasks ≡ length l.fn.tasks.tasks;
}
