use Rattle.lock_structure.proofs.LawProofs.{submit_manages}
use Rattle.lock_structure.proofs.laws.submit_manages.Goals as goal

pub returns : goal.returns
returns c = submit_manages
