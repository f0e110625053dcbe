use Rattle.lock_structure.proofs.LawProofs.{submit_joins}
use Rattle.lock_structure.proofs.laws.submit_joins.Goals as goal

pub returns : goal.returns
returns c = submit_joins
