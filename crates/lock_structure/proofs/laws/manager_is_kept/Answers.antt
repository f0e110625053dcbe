use Rattle.lock_structure.proofs.LawProofs.{manager_is_kept}
use Rattle.lock_structure.proofs.laws.manager_is_kept.Goals as goal

pub returns : goal.returns
returns c = manager_is_kept
