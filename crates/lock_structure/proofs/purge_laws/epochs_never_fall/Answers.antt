use Rattle.lock_structure.proofs.Purges.{epochs_never_fall}
use Rattle.lock_structure.proofs.purge_laws.epochs_never_fall.Goals as goal

pub returns : goal.returns
returns c = epochs_never_fall
