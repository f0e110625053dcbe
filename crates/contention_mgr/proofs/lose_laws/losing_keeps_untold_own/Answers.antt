use Rattle.contention_mgr.proofs.LoseLawProofs.{losing_keeps_untold_own}
use Rattle.contention_mgr.proofs.lose_laws.losing_keeps_untold_own.Goals as goal

pub returns : goal.returns
returns c = losing_keeps_untold_own
