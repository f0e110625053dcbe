use Rattle.std.proofs.Common.{◌∙◌, ◌≡◌, ap, sym, subst, refl, true, length, arith, Option}
use Rattle.std.proofs.lemmas.Result.{IfOk-weaker}
use Rattle.system_purge.specs.Gathers.{GathersView, gathering_at, keeps_right, parts_in}
use Rattle.system_purge.specs.declared.gathers.Gathering.{Gathering}
use Rattle.system_purge.proofs.GatherSlots.{get-keeps, got, set-kept}
use Rattle.system_purge.proofs.gathers.Gathers.take.Goals as goal

pub invariant_of-self : goal.invariant_of-self
invariant_of-self c =
    set-kept c.self.inside.entries c.self.inside.slots.items c.args.entry c.take_parts.new.slot c.self.invariant
    (subst (λ (o : Option Gathering). keeps_right (length c.self.inside.slots.items) c.args.entry o ≡ true)
    (sym c.take_parts.ensures.rest) refl)

pub returns-clause-right : goal.returns-clause-right
returns-clause-right c =
    subst (λ (gs : GathersView). keeps_right (length gs) c.args.entry (gathering_at gs c.args.entry) ≡ true)
    c.self.view_is (get-keeps c.self.inside.slots.items c.args.entry c.self.invariant.1)

pub returns-clause-parts : goal.returns-clause-parts
returns-clause-parts c =
    IfOk-weaker c.take_parts.result _ _
    (λ parts are.
    are
    ∙ ap parts_in
    (sym
    (got c.self.inside.slots.items c.args.entry c.index_mut-slot.result.now (omega arith) c.index_mut-slot.ensures.value)
    ∙ ap (λ (gs : GathersView). gathering_at gs c.args.entry) c.self.view_is))
    c.take_parts.ensures.parts
