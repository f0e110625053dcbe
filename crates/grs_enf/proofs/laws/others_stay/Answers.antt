use Rattle.grs_enf.proofs.TurnLaws.{others_stay}
use Rattle.grs_enf.proofs.laws.others_stay.Goals as goal

pub returns : goal.returns
returns c = others_stay
