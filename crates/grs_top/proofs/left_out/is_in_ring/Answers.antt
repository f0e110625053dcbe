use Rattle.grs_top.proofs.LeftOut.{ring-sends, ring-settles, ring-tells}
use Rattle.grs_top.proofs.left_out.is_in_ring.Goals as goal

pub returns-in-None-clause-sends : goal.returns-in-None-clause-sends
returns-in-None-clause-sends c = λ is t. ring-sends c.args.node.now.deck c.args.node.now.node t c.in-None.ensures.none

pub returns-in-None-clause-settles : goal.returns-in-None-clause-settles
returns-in-None-clause-settles c = λ is. ring-settles c.args.node.now.deck c.args.node.now.node c.in-None.ensures.none

pub returns-in-None-clause-tells : goal.returns-in-None-clause-tells
returns-in-None-clause-tells c = λ is e. ring-tells c.args.node.now.deck c.args.node.now.node e c.in-None.ensures.none
