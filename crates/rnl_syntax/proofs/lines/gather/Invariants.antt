use Rattle.std.proofs.Common.{length}
use Rattle.rnl_syntax.proofs.Gathered.{Gathers}
use Rattle.rnl_syntax.proofs.lines.gather.Given as goal

abbrev pub invariant-loop-statement : goal.invariant-loop-statement
invariant-loop-statement l = Gathers l.statement l.lines l.initial.statement l.initial.lines

abbrev pub decreases-loop-statement : goal.decreases-loop-statement
decreases-loop-statement l = length l.lines
