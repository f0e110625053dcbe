use Rattle.contention_mgr.proofs.LoseNothing.{losing_nothing}
use Rattle.contention_mgr.proofs.lose_laws.losing_nothing.Goals as goal

pub returns : goal.returns
returns c = losing_nothing
