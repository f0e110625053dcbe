use Rattle.lock_structure.proofs.LawProofs.{submit_keeps_manager}
use Rattle.lock_structure.proofs.laws.submit_keeps_manager.Goals as goal

pub returns : goal.returns
returns c = submit_keeps_manager
