use Rattle.lock_structure.proofs.Purges.{moved_in_order}
use Rattle.lock_structure.proofs.purge_laws.moved_in_order.Goals as goal

pub returns : goal.returns
returns c = moved_in_order
