use Rattle.lock_structure.proofs.Purges.{purge_names_least}
use Rattle.lock_structure.proofs.purge_laws.purge_names_least.Goals as goal

pub returns : goal.returns
returns c = purge_names_least
