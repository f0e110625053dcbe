use Rattle.std.proofs.Common.{◌∙◌, sym}
use Rattle.grs_wire.specs.Masks.{has}
use Rattle.rsa_message.proofs.OrderLaws.{find_on}
use Rattle.rsa_message.proofs.order.first_in.Goals as goal

pub loop-places-preserved : goal.loop-places-preserved
loop-places-preserved c =
    find_on (λ s. has c.args.set s.0) c.args.systems c.args.system.0 c.loop-places.places c.args.systems
    c.system_after-next.result _ c.loop-places-test.true c.system_after-next.ensures.system
    (sym c.has_system.ensures ∙ c.if-has_system.false) c.loop-places.invariant
