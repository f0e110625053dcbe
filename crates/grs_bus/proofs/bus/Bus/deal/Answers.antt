use Rattle.std.proofs.Common.{rules, ◌≡◌, sym, ap, subst, ◌∙◌, arith}
use Rattle.atomic_table.specs.Table.{Me}
use Rattle.grs_bus.specs.Rule.{cut_left}
use Rattle.grs_bus.specs.Seats.{BusValue}
use Rattle.grs_bus.specs.declared.slot.Slot.{Slot}
use Rattle.grs_bus.specs.declared.view.View.{View}
use Rattle.grs_bus.proofs.RuleLaws.{splits}
use Rattle.grs_bus.proofs.EndLaws.{AreDealt, dealt_count, dealt_next}
use Rattle.grs_bus.proofs.bus.Bus.deal.Goals as goal

pub split_seat-place-requires : goal.split_seat-place-requires
split_seat-place-requires c =
    let inv = c.loop-number.invariant in let below = c.loop-number-test.true in let few = c.requires.few in
    let given : c.loop-number.lead.me.0.given ≡ c.loop-number.number = ap (λ (m : Me Slot View). m.0.given) inv.1 in (
      inv.0 ∙ sym (ap (λ (b : BusValue). b.table) c.self.view_is),
      search rules,
      splits _ _ _ (ap (λ (m : Me Slot View). m.0.spent) inv.1) (ap (λ (m : Me Slot View). m.0.holding) inv.1)
          (ap (λ (m : Me Slot View). m.0.system.0) inv.1) (omega arith),
    )

pub loop-number-preserved : goal.loop-number-preserved
loop-number-preserved c =
    let inv = c.loop-number.invariant in let cut = c.split_seat-place.ensures in (
      search rules,
      cut.2 ∙ ap (λ (m : Me Slot View). (cut_left m.0, m.1)) inv.1,
      dealt_count c.loop-number.others c.push.new.self _ c.loop-number.number c.in_ok-push.ensures.ok inv.2,
      subst (AreDealt c.args.self.now) (sym c.in_ok-push.ensures.ok)
          (dealt_next c.args.self.now c.loop-number.others c.loop-number.number c.args.place.me.0.first _
          c.loop-number.lead.me c.split_seat-place.result.me inv.3 inv.2 (cut.3 ∙ inv.0) c.requires.first inv.1 cut.4),
    )
