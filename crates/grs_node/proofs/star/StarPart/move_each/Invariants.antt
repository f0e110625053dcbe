use Rattle.std.proofs.Common.{◌≡◌, length, true}
use Rattle.std.specs.List.{list_all}
use Rattle.grs_node.specs.Removal.{move_each, names_system, standing}
use Rattle.grs_node.proofs.star.StarPart.move_each.Given as goal

abbrev pub invariant-loop-item : goal.invariant-loop-item
invariant-loop-item l = record {
  step :
      move_each l.known (standing l.tasks l.self) l.rest ≡ move_each l.known (standing l.fn.tasks l.fn.self) l.items;
  items : list_all names_system l.rest ≡ true;
  system : l.tasks.system ≡ l.fn.tasks.system;
  count : length l.tasks.tasks ≡ length l.fn.tasks.tasks;
}

abbrev pub decreases-loop-item : goal.decreases-loop-item
decreases-loop-item l = length l.rest
