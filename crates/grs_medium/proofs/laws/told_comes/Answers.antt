use Rattle.grs_medium.proofs.StarCauses.{told_comes}
use Rattle.grs_medium.proofs.laws.told_comes.Goals as goal

pub returns : goal.returns
returns c = told_comes
