use Rattle.grs_wire.proofs.HistoryLaws.{steps_by_lists}
use Rattle.grs_wire.proofs.laws.steps_by_lists.Goals as goal

pub returns : goal.returns
returns c = steps_by_lists
