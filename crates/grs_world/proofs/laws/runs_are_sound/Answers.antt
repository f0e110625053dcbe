use Rattle.grs_world.proofs.loss.Run.{losses_sound}
use Rattle.grs_world.proofs.laws.runs_are_sound.Goals as goal

pub returns : goal.returns
returns c = losses_sound
