use Rattle.lock_structure.proofs.LawProofs.{leave_keeps_managed}
use Rattle.lock_structure.proofs.laws.leave_keeps_managed.Goals as goal

pub returns : goal.returns
returns c = leave_keeps_managed
