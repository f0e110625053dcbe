use Rattle.std.proofs.Common.{◌≡◌, ◌≤◌, ◌+◌, length, map, take}
use Rattle.queue_table.specs.Classes.{class_of}
use Rattle.queue_table.proofs.resources.put_classes.Given as goal

abbrev pub invariant-loop-i : goal.invariant-loop-i
invariant-loop-i l = record {
  classes : l.classes.classes ≡ map (λ e. class_of e.0) (take l.i l.numbers.entries);
  room : length l.numbers.entries ≤ l.classes.room + l.i;
}
