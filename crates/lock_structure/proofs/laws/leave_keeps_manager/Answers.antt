use Rattle.lock_structure.proofs.LawProofs.{leave_keeps_manager}
use Rattle.lock_structure.proofs.laws.leave_keeps_manager.Goals as goal

pub returns : goal.returns
returns c = leave_keeps_manager
