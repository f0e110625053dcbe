use Rattle.std.proofs.Common.{◌≡◌, ◌++◌, length, map, take, drop}
use Rattle.grs_node.specs.Removal.{again}
use Rattle.grs_node.proofs.star.StarPart.send_again.Given as goal

abbrev pub invariant-loop-place : goal.invariant-loop-place
invariant-loop-place l = record {
  tasks :
      l.tasks.tasks
      ≡ map (again l.self l.entry) (take l.place l.fn.tasks.tasks) ++ drop l.place l.fn.tasks.tasks;
  told : l.tasks.told ≡ l.fn.tasks.told;
  system : l.tasks.system ≡ l.fn.tasks.system;
  count : length l.tasks.tasks ≡ length l.fn.tasks.tasks;
}
