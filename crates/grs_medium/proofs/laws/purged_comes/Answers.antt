use Rattle.grs_medium.proofs.CauseLaws.{purged_comes}
use Rattle.grs_medium.proofs.laws.purged_comes.Goals as goal

pub returns : goal.returns
returns c = purged_comes
