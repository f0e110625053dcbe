use Rattle.std.proofs.Common.{◌≡◌, sym, subst}
use Rattle.grs_wire.specs.declared.medium.Call.{Call}
use Rattle.grs_medium.specs.Apply.{ActFits, MayCall}
use Rattle.grs_medium.specs.Medium.{MediumState}
use Rattle.grs_medium.proofs.KeptSizes.{may_call_behind}
use Rattle.grs_bus.proofs.slot.Slot.enter.Goals as goal

pub concerned-self-requires : goal.concerned-self-requires
concerned-self-requires c =
    let ready = c.prepare.new.self.medium.state in
    let may : MayCall ready c.args.caller c.args.call =
    subst (λ (m : MediumState). MayCall m c.args.caller c.args.call) (sym c.prepare.ensures.same.1) c.requires in
    let fits : ActFits c.apply-given.new.self.state c.args.caller c.args.call.act =
    subst (λ (m : MediumState). ActFits m c.args.caller c.args.call.act) (sym c.apply-given.ensures.state)
    (may_call_behind ready c.args.caller c.args.call c.args.caller c.args.call may.1 may).1 in
    subst (λ (x : Call). ActFits c.apply-given.new.self.state c.args.caller x.act) (sym c.in_ok-asked.ensures.copy) fits
