use Rattle.lock_structure.proofs.LawProofs.{leave_parts}
use Rattle.lock_structure.proofs.laws.leave_parts.Goals as goal

pub returns : goal.returns
returns c = leave_parts
