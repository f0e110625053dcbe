use Rattle.grs_medium.proofs.CauseLaws.{already_comes}
use Rattle.grs_medium.proofs.laws.already_comes.Goals as goal

pub returns : goal.returns
returns c = already_comes
