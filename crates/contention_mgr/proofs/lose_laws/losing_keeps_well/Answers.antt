use Rattle.contention_mgr.proofs.LoseLawProofs.{losing_keeps_well}
use Rattle.contention_mgr.proofs.lose_laws.losing_keeps_well.Goals as goal

pub returns : goal.returns
returns c = losing_keeps_well
