use Rattle.grs_world.proofs.loss.Laws.{losses_parts}
use Rattle.grs_world.proofs.laws.managers_keep_well.Goals as goal

pub returns : goal.returns
returns c = losses_parts
