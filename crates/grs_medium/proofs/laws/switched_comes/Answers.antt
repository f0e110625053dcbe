use Rattle.grs_medium.proofs.CauseLaws.{switched_comes}
use Rattle.grs_medium.proofs.laws.switched_comes.Goals as goal

pub returns : goal.returns
returns c = switched_comes
