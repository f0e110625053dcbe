use Rattle.contention_mgr.proofs.LoseLawProofs.{lost_ranks}
use Rattle.contention_mgr.proofs.lose_laws.lost_ranks.Goals as goal

pub returns : goal.returns
returns c = lost_ranks
