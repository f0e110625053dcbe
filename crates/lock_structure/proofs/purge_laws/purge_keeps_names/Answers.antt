use Rattle.lock_structure.proofs.Within.{purge_keeps_names}
use Rattle.lock_structure.proofs.purge_laws.purge_keeps_names.Goals as goal

pub returns : goal.returns
returns c = purge_keeps_names
