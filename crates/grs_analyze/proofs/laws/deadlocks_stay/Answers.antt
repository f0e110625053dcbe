use Rattle.grs_analyze.proofs.DeadlockLaws.{deadlocks_stay}
use Rattle.grs_analyze.proofs.laws.deadlocks_stay.Goals as goal

pub returns : goal.returns
returns c = deadlocks_stay
