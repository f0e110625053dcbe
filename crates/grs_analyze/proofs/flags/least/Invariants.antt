use Rattle.std.proofs.Common.{◌≡◌, drop}
use Rattle.grs_analyze.specs.Walk.{least, least_with}
use Rattle.grs_analyze.specs.Numbered.{flagged}
use Rattle.grs_analyze.proofs.flags.least.Given as goal

abbrev pub invariant-loop-number : goal.invariant-loop-number
invariant-loop-number l =
    least_with l.found (flagged (drop l.number l.tasks) (drop l.number l.flags)) ≡ least (flagged l.tasks l.flags)
