use Rattle.grs_medium.proofs.StarCauses.{left_comes}
use Rattle.grs_medium.proofs.laws.left_comes.Goals as goal

pub returns : goal.returns
returns c = left_comes
