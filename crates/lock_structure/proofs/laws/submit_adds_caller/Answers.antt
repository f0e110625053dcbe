use Rattle.lock_structure.proofs.LawProofs.{submit_adds_caller}
use Rattle.lock_structure.proofs.laws.submit_adds_caller.Goals as goal

pub returns : goal.returns
returns c = submit_adds_caller
