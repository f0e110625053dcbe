use Rattle.lock_structure.proofs.Purges.{purge_keeps_others}
use Rattle.lock_structure.proofs.purge_laws.purge_keeps_others.Goals as goal

pub returns : goal.returns
returns c = purge_keeps_others
