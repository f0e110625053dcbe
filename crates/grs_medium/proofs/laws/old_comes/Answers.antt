use Rattle.grs_medium.proofs.StarCauses.{old_comes}
use Rattle.grs_medium.proofs.laws.old_comes.Goals as goal

pub returns : goal.returns
returns c = old_comes
