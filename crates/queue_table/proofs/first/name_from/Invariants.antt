use Rattle.std.proofs.Common.{◌≡◌, drop}
use Rattle.queue_table.specs.Names.{name_of}
use Rattle.queue_table.proofs.first.name_from.Given as goal

abbrev pub invariant-loop-i : goal.invariant-loop-i
invariant-loop-i l = name_of (drop l.i l.numbers.entries) l.queue ≡ name_of l.numbers.entries l.queue
