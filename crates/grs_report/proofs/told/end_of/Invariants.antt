use Rattle.std.proofs.Common.{◌≡◌, drop}
use Rattle.grs_report.specs.Told.{end_of}
use Rattle.grs_report.proofs.told.end_of.Given as goal

abbrev pub invariant-loop-other : goal.invariant-loop-other
invariant-loop-other l = end_of l.task (drop l.other-index l.ended) ≡ end_of l.task l.ended
