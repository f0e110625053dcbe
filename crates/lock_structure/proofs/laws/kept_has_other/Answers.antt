use Rattle.lock_structure.proofs.Others.{kept_has_other}
use Rattle.lock_structure.proofs.laws.kept_has_other.Goals as goal

pub returns : goal.returns
returns c = kept_has_other
