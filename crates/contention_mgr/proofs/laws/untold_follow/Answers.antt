use Rattle.contention_mgr.proofs.OwnLemmas.{untold_follow}
use Rattle.contention_mgr.proofs.laws.untold_follow.Goals as goal

pub returns : goal.returns
returns c = untold_follow
