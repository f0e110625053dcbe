use Rattle.contention_mgr.proofs.ManagerLaws.{well_kept_begins}
use Rattle.contention_mgr.proofs.laws.well_kept_begins.Goals as goal

pub returns : goal.returns
returns c = well_kept_begins
