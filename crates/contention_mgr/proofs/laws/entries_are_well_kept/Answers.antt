use Rattle.contention_mgr.proofs.ManagerLaws.{entries_are_well_kept}
use Rattle.contention_mgr.proofs.laws.entries_are_well_kept.Goals as goal

pub returns : goal.returns
returns c = entries_are_well_kept
