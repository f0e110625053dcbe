use Rattle.contention_mgr.proofs.LoseLawProofs.{lost_lists}
use Rattle.contention_mgr.proofs.lose_laws.lost_lists.Goals as goal

pub returns : goal.returns
returns c = lost_lists
