use Rattle.lock_structure.proofs.Purges.{moved_are_entries}
use Rattle.lock_structure.proofs.purge_laws.moved_are_entries.Goals as goal

pub returns : goal.returns
returns c = moved_are_entries
