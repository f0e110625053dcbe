use Rattle.grs_medium.proofs.CauseLaws.{stale_comes}
use Rattle.grs_medium.proofs.laws.stale_comes.Goals as goal

pub returns : goal.returns
returns c = stale_comes
