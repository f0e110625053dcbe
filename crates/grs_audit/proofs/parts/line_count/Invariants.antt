use Rattle.std.proofs.Common.{◌≡◌, ◌+◌, length}
use Rattle.grs_audit.specs.Lines.{lines_in}
use Rattle.grs_audit.proofs.parts.line_count.Given as goal

abbrev pub invariant-lines : goal.invariant-lines
invariant-lines l = l.lines + length (lines_in l.rest) ≡ length (lines_in l.text)

abbrev pub decreases-lines : goal.decreases-lines
decreases-lines l = length l.rest
