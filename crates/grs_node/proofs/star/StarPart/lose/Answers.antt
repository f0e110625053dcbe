use Rattle.std.proofs.Common.{rules}
use Rattle.grs_node.proofs.RemovalSteps.{lost-made}
use Rattle.grs_node.proofs.star.StarPart.lose.Goals as goal

pub returns-clause-step : goal.returns-clause-step
returns-clause-step c =
    let slice = c.as_slice.ensures in
    let view = c.owners.view_is in
    let gains = c.in_ok-owners.ensures.gained in
    lost-made c.tell_each.result c.args.system c.args.tasks.now c.tell_each.new.tasks _ c.args.self.now c.lose.new.self
    c.lose-2.new.self c.drop_held.new.held.items c.as_slice.result.now c.self.view_is c.in_ok-owners.ensures.after
    c.lose-2.ensures c.drop_held.ensures (first_of (cc, search rules)) c.tell_each.ensures.step
