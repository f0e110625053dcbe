use Rattle.contention_mgr.proofs.ManagerLaws.{telling_keeps_well}
use Rattle.contention_mgr.proofs.laws.telling_keeps_well.Goals as goal

pub returns : goal.returns
returns c = telling_keeps_well
