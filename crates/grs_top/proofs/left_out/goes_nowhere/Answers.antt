use Rattle.grs_top.proofs.LeftOut.{idle-goes}
use Rattle.grs_top.proofs.left_out.goes_nowhere.Goals as goal

pub returns-then-idle : goal.returns-then-idle
returns-then-idle c = λ is. idle-goes c.args.node.now.node c.args.task (c.requires c.if-idle.true)
