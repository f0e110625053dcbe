use Rattle.std.proofs.Common.{◌≡◌}
use Rattle.lock_structure.proofs.MovedLaws.{moved_below}
use Rattle.lock_structure.proofs.words.Words.moved_for.Given as goal

abbrev pub invariant-loop-entry : goal.invariant-loop-entry
invariant-loop-entry l = l.items ≡ moved_below l.self l.target l.system l.entry
