use Rattle.std.proofs.Common.{length}
use Rattle.grs_audit.proofs.CompareLaws.{AreAlike}
use Rattle.grs_audit.proofs.compare.compare_lines.Given as goal

abbrev pub invariant-lines : goal.invariant-lines
invariant-lines l = AreAlike l.wanted l.text l.left l.rest l.lines

abbrev pub decreases-lines : goal.decreases-lines
decreases-lines l = length l.left
