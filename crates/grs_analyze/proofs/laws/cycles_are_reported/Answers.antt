use Rattle.grs_analyze.proofs.CycleLaws.{cycles_are_reported}
use Rattle.grs_analyze.proofs.laws.cycles_are_reported.Goals as goal

pub returns : goal.returns
returns c = cycles_are_reported
