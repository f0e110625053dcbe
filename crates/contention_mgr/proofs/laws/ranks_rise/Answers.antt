use Rattle.contention_mgr.proofs.LawProofs.{ranks_rise}
use Rattle.contention_mgr.proofs.laws.ranks_rise.Goals as goal

pub returns : goal.returns
returns c = ranks_rise
