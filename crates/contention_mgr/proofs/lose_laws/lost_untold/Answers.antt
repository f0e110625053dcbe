use Rattle.contention_mgr.proofs.LoseLawProofs.{lost_untold}
use Rattle.contention_mgr.proofs.lose_laws.lost_untold.Goals as goal

pub returns : goal.returns
returns c = lost_untold
