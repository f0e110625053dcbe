use Rattle.contention_mgr.proofs.LawProofs.{lists_follow}
use Rattle.contention_mgr.proofs.laws.lists_follow.Goals as goal

pub returns : goal.returns
returns c = lists_follow
