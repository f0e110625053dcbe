use Rattle.std.proofs.Common.{length}
use Rattle.grs_audit.proofs.HalvesLaws.{IsBefore}
use Rattle.grs_audit.proofs.halves.find_report.Given as goal

abbrev pub invariant-lines : goal.invariant-lines
invariant-lines l = IsBefore l.text l.rest l.lines

abbrev pub decreases-lines : goal.decreases-lines
decreases-lines l = length l.rest
