use Rattle.grs_world.proofs.run.Silent.{removed-silent}
use Rattle.grs_world.proofs.laws.removed_tell_nothing.Goals as goal

pub returns : goal.returns
returns c = removed-silent
