use Rattle.grs_medium.proofs.CauseLaws.{no_such_comes}
use Rattle.grs_medium.proofs.laws.no_such_comes.Goals as goal

pub returns : goal.returns
returns c = no_such_comes
