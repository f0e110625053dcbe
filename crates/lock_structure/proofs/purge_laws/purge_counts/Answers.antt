use Rattle.lock_structure.proofs.Purges.{purge_counts}
use Rattle.lock_structure.proofs.purge_laws.purge_counts.Goals as goal

pub returns : goal.returns
returns c = purge_counts
