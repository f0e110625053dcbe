use Rattle.std.proofs.Common.{◌∙◌, sym}
use Rattle.rsa_message.specs.Message.{is_due}
use Rattle.rsa_message.proofs.OrderLaws.{find_on}
use Rattle.rsa_message.proofs.order.next_due.Goals as goal

pub loop-places-preserved : goal.loop-places-preserved
loop-places-preserved c =
    find_on (is_due c.args.entries.now c.args.live c.args.rest) c.args.systems c.args.system.0 c.loop-places.places
    c.args.systems c.system_after-next.result _ c.loop-places-test.true c.system_after-next.ensures.system
    (sym c.has_to_come.ensures ∙ c.if-has_to_come.false) c.loop-places.invariant
