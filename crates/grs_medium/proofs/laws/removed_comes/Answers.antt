use Rattle.grs_medium.proofs.CauseLaws.{removed_comes}
use Rattle.grs_medium.proofs.laws.removed_comes.Goals as goal

pub returns : goal.returns
returns c = removed_comes
