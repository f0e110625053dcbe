use Rattle.grs_medium.proofs.StarCauses.{empty_comes}
use Rattle.grs_medium.proofs.laws.empty_comes.Goals as goal

pub returns : goal.returns
returns c = empty_comes
