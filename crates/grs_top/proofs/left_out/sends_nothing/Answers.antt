use Rattle.grs_top.proofs.LeftOut.{idle-sends}
use Rattle.grs_top.proofs.left_out.sends_nothing.Goals as goal

pub returns-then-idle : goal.returns-then-idle
returns-then-idle c = λ is. idle-sends c.args.node.now.node c.args.task (c.requires c.if-idle.true)

pub returns-then-is_in_ring : goal.returns-then-is_in_ring
returns-then-is_in_ring c = λ is. c.is_in_ring.ensures.sends c.if-is_in_ring.true c.args.task
