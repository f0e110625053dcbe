use Rattle.grs_node.proofs.Finish.{unjournalled_leaves}
use Rattle.grs_node.proofs.laws.unjournalled_leaves.Goals as goal

pub returns : goal.returns
returns c = unjournalled_leaves
