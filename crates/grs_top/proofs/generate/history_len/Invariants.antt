use Rattle.std.proofs.Common.{◌≡◌, ◌+◌, drop, length}
use Rattle.grs_wire.specs.History.{answered}
use Rattle.grs_top.proofs.generate.history_len.Given as goal

abbrev pub invariant-loop-entry : goal.invariant-loop-entry
invariant-loop-entry l = l.count + length (answered (drop l.entry-index l.fixed)) ≡ length (answered l.fixed)
