use Rattle.grs_world.proofs.loss.Laws.{losses_tables}
use Rattle.grs_world.proofs.laws.tables_are_fronts.Goals as goal

pub returns : goal.returns
returns c = losses_tables
