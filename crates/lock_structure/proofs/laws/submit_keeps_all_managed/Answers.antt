use Rattle.lock_structure.proofs.LawProofs.{submit_keeps_all_managed}
use Rattle.lock_structure.proofs.laws.submit_keeps_all_managed.Goals as goal

pub returns : goal.returns
returns c = submit_keeps_all_managed
