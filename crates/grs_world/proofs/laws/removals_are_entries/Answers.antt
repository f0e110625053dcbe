use Rattle.grs_world.proofs.run.Replies.{removal_entries}
use Rattle.grs_world.proofs.laws.removals_are_entries.Goals as goal

pub returns : goal.returns
returns c = removal_entries
