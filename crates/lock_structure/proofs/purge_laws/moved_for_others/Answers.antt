use Rattle.lock_structure.proofs.Purges.{moved_for_others}
use Rattle.lock_structure.proofs.purge_laws.moved_for_others.Goals as goal

pub returns : goal.returns
returns c = moved_for_others
