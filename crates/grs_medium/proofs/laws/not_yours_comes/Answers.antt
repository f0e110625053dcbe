use Rattle.grs_medium.proofs.CauseLaws.{not_yours_comes}
use Rattle.grs_medium.proofs.laws.not_yours_comes.Goals as goal

pub returns : goal.returns
returns c = not_yours_comes
