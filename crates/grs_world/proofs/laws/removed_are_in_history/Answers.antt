use Rattle.grs_world.proofs.run.Removals.{removed_in_history}
use Rattle.grs_world.proofs.laws.removed_are_in_history.Goals as goal

pub returns : goal.returns
returns c = removed_in_history
