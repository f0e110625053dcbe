use Rattle.lock_structure.proofs.LawProofs.{kept_stays}
use Rattle.lock_structure.proofs.laws.kept_stays.Goals as goal

pub returns : goal.returns
returns c = kept_stays
