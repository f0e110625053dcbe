use Rattle.grs_medium.proofs.StarCauses.{settled_comes}
use Rattle.grs_medium.proofs.laws.settled_comes.Goals as goal

pub returns : goal.returns
returns c = settled_comes
