use Rattle.grs_world.proofs.run.Replies.{removals_keep}
use Rattle.grs_world.proofs.laws.removals_keep_others.Goals as goal

pub returns : goal.returns
returns c = removals_keep
