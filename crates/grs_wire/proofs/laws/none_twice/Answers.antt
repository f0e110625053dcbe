use Rattle.grs_wire.proofs.HistoryLaws.{none_twice}
use Rattle.grs_wire.proofs.laws.none_twice.Goals as goal

pub returns : goal.returns
returns c = none_twice
