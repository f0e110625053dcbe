use Rattle.grs_world.proofs.loss.Kept.{losses_kept}
use Rattle.grs_world.proofs.laws.kept_are_places.Goals as goal

pub returns : goal.returns
returns c = losses_kept
