use Rattle.std.proofs.Common.{◌≡◌}
use Rattle.grs_medium.specs.Apply.{moved_by}
use Rattle.grs_medium.proofs.notices.moved_by.Given as goal

abbrev pub invariant-loop-s : goal.invariant-loop-s
invariant-loop-s l = l.lists.items ≡ moved_by l.words l.s l.target
