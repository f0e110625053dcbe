use Rattle.grs_medium.proofs.CauseLaws.{over_comes}
use Rattle.grs_medium.proofs.laws.over_comes.Goals as goal

pub returns : goal.returns
returns c = over_comes
