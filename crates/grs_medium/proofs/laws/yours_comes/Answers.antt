use Rattle.grs_medium.proofs.StarCauses.{yours_comes}
use Rattle.grs_medium.proofs.laws.yours_comes.Goals as goal

pub returns : goal.returns
returns c = yours_comes
