use Rattle.lock_structure.proofs.Purges.{purge_takes_target}
use Rattle.lock_structure.proofs.purge_laws.purge_takes_target.Goals as goal

pub returns : goal.returns
returns c = purge_takes_target
