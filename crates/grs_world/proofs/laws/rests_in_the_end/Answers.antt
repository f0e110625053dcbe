use Rattle.grs_world.proofs.loss.AtRest.{losses_rest}
use Rattle.grs_world.proofs.laws.rests_in_the_end.Goals as goal

pub returns : goal.returns
returns c = losses_rest
