use Rattle.contention_mgr.proofs.LawProofs.{telling_keeps_lists}
use Rattle.contention_mgr.proofs.laws.telling_keeps_lists.Goals as goal

pub returns : goal.returns
returns c = telling_keeps_lists
