use Rattle.grs_wire.proofs.HistoryLaws.{keeps_owners}
use Rattle.grs_wire.proofs.laws.keeps_owners.Goals as goal

pub returns : goal.returns
returns c = keeps_owners
