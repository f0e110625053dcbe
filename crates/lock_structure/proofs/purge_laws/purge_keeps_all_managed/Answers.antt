use Rattle.lock_structure.proofs.Purges.{purge_keeps_all_managed}
use Rattle.lock_structure.proofs.purge_laws.purge_keeps_all_managed.Goals as goal

pub returns : goal.returns
returns c = purge_keeps_all_managed
