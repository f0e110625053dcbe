use Rattle.contention_mgr.proofs.LawProofs.{others_stay}
use Rattle.contention_mgr.proofs.laws.others_stay.Goals as goal

pub returns : goal.returns
returns c = others_stay
