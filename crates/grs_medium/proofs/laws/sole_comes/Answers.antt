use Rattle.grs_medium.proofs.StarCauses.{sole_comes}
use Rattle.grs_medium.proofs.laws.sole_comes.Goals as goal

pub returns : goal.returns
returns c = sole_comes
