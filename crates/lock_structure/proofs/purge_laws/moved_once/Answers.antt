use Rattle.lock_structure.proofs.Purges.{moved_once}
use Rattle.lock_structure.proofs.purge_laws.moved_once.Goals as goal

pub returns : goal.returns
returns c = moved_once
