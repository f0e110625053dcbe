use Rattle.lock_structure.proofs.LawProofs.{empty_is_managed}
use Rattle.lock_structure.proofs.laws.empty_is_managed.Goals as goal

pub returns : goal.returns
returns c = empty_is_managed
