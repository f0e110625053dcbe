use Rattle.grs_medium.proofs.StarCauses.{kept_comes}
use Rattle.grs_medium.proofs.laws.kept_comes.Goals as goal

pub returns : goal.returns
returns c = kept_comes
