use Rattle.grs_medium.proofs.StarCauses.{taken_comes}
use Rattle.grs_medium.proofs.laws.taken_comes.Goals as goal

pub returns : goal.returns
returns c = taken_comes
