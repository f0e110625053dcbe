use Rattle.grs_enf.proofs.TurnLaws.{notices_turn}
use Rattle.grs_enf.proofs.laws.notices_alternate.Goals as goal

pub returns : goal.returns
returns c = notices_turn
