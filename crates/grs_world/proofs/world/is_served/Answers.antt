use Rattle.grs_world.proofs.code.Lapped.{served-by}
use Rattle.grs_world.proofs.world.is_served.Goals as goal

pub returns-in-Some : goal.returns-in-Some
returns-in-Some c =
    served-by c.args.node.now.deck c.args.node.now.node c.args.medium.now.state c.args.system c.in-Some.known
    c.turn_refusal.result c.is_none.result c.in-Some.ensures.turn c.turn_refusal.ensures c.is_none.ensures
