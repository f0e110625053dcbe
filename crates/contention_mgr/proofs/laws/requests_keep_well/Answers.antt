use Rattle.contention_mgr.proofs.ManagerLaws.{requests_keep_well}
use Rattle.contention_mgr.proofs.laws.requests_keep_well.Goals as goal

pub returns : goal.returns
returns c = requests_keep_well
