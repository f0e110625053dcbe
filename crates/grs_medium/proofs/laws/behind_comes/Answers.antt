use Rattle.grs_medium.proofs.CauseLaws.{behind_comes}
use Rattle.grs_medium.proofs.laws.behind_comes.Goals as goal

pub returns : goal.returns
returns c = behind_comes
