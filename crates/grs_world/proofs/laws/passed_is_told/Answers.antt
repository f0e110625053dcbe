use Rattle.grs_world.proofs.loss.Laws.{losses_passed}
use Rattle.grs_world.proofs.laws.passed_is_told.Goals as goal

pub returns : goal.returns
returns c = losses_passed
