use Rattle.lock_structure.proofs.LawProofs.{leave_takes_caller}
use Rattle.lock_structure.proofs.laws.leave_takes_caller.Goals as goal

pub returns : goal.returns
returns c = leave_takes_caller
