use Rattle.lock_structure.proofs.LawProofs.{leave_manages}
use Rattle.lock_structure.proofs.laws.leave_manages.Goals as goal

pub returns : goal.returns
returns c = leave_manages
