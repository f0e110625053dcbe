use Rattle.grs_medium.proofs.CauseLaws.{resting_comes}
use Rattle.grs_medium.proofs.laws.resting_comes.Goals as goal

pub returns : goal.returns
returns c = resting_comes
