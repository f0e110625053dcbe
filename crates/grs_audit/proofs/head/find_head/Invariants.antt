use Rattle.std.proofs.Common.{length}
use Rattle.grs_audit.proofs.HeadLaws.{IsLooked}
use Rattle.grs_audit.proofs.head.find_head.Given as goal

abbrev pub invariant-lines : goal.invariant-lines
invariant-lines l = IsLooked l.text l.rest l.place

abbrev pub decreases-lines : goal.decreases-lines
decreases-lines l = length l.rest
