use Rattle.grs_node.proofs.Finish.{replies_leave}
use Rattle.grs_node.proofs.laws.replies_leave.Goals as goal

pub returns : goal.returns
returns c = replies_leave
