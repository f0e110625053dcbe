use Rattle.lock_structure.proofs.LawProofs.{kept_changes_nothing}
use Rattle.lock_structure.proofs.laws.kept_changes_nothing.Goals as goal

pub returns : goal.returns
returns c = kept_changes_nothing
