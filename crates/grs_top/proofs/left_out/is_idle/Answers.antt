use Rattle.grs_top.proofs.LeftOut.{not-pending}
use Rattle.grs_top.proofs.left_out.is_idle.Goals as goal

pub returns : goal.returns
returns c = λ idle.
    not-pending c.args.node.now.deck c.args.node.now.node c.pending.result c.pending.ensures idle
