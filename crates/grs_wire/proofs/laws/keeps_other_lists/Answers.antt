use Rattle.grs_wire.proofs.HistoryLaws.{keeps_other_lists}
use Rattle.grs_wire.proofs.laws.keeps_other_lists.Goals as goal

pub returns : goal.returns
returns c = keeps_other_lists
