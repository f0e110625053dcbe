use Rattle.grs_top.proofs.LeftOut.{idle-settles, idle-tells}
use Rattle.grs_top.proofs.left_out.answers_nothing.Goals as goal

pub returns-then-idle-clause-settles : goal.returns-then-idle-clause-settles
returns-then-idle-clause-settles c = λ is. idle-settles c.args.node.now.node (c.requires c.if-idle.true)

pub returns-then-idle-clause-tells : goal.returns-then-idle-clause-tells
returns-then-idle-clause-tells c = λ is e. idle-tells c.args.node.now.node e (c.requires c.if-idle.true)
