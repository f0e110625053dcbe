use Rattle.std.proofs.Common.{rules, ap, sym, ◌∙◌}
use Rattle.atomic_table.specs.Table.{Me}
use Rattle.atomic_table.proofs.Lists.{at_index}
use Rattle.grs_bus.specs.Seats.{BusValue, SeatValue}
use Rattle.grs_bus.specs.declared.slot.Slot.{Slot}
use Rattle.grs_bus.specs.declared.view.View.{View}
use Rattle.grs_bus.proofs.JournalLaws.{none_removed}
use Rattle.grs_bus.proofs.EndLaws.{IsLed, led, IsClosed, closed_as}
use Rattle.grs_bus.proofs.bus.Bus.close.Goals.{After-lead-1, After-gather, After-drop-self-inside}
use Rattle.grs_bus.proofs.bus.Bus.close.Goals as goal

led_by : (c : After-lead-1) → IsLed c.args.self c.args.seats c.remove.result c.remove.new.self.items
led_by c =
    led c.args.self c.args.seats c.into_vec-rest.result.items c.remove.new.self.items c.remove.result
    c.into_vec-rest.ensures c.requires
    (λ some. at_index c.into_vec-rest.result.items 0 c.remove.result some c.remove.ensures.value) c.remove.ensures.items

pub gather-requires-clause-table : goal.gather-requires-clause-table
gather-requires-clause-table c =
    ap (λ (v : SeatValue). v.bus.table) c.lead.view_is ∙ ap (λ (b : BusValue). b.table) (led_by c).bus

pub gather-requires-clause-rests : goal.gather-requires-clause-rests
gather-requires-clause-rests c = let rests = c.lead.invariant in
    (rests.0, ap (λ (v : SeatValue). v.system) c.lead.view_is ∙ (led_by c).system, rests.2, rests.3, search rules)

pub gather-requires-clause-rest : goal.gather-requires-clause-rest
gather-requires-clause-rest c = (led_by c).tables

led_again : (c : After-gather) → IsLed c.args.self c.args.seats c.remove.result c.remove.new.self.items
led_again c =
    led c.args.self c.args.seats c.into_vec-rest.result.items c.remove.new.self.items c.remove.result
    c.into_vec-rest.ensures c.requires
    (λ some. at_index c.into_vec-rest.result.items 0 c.remove.result some c.remove.ensures.value) c.remove.ensures.items

pub close_with-closed-requires : goal.close_with-closed-requires
close_with-closed-requires c =
    c.gather.ensures.same.0
    ∙ (ap (λ (v : SeatValue). v.bus.table) c.lead.view_is
    ∙ (ap (λ (b : BusValue). b.table) (led_again c).bus ∙ sym (ap (λ (b : BusValue). b.table) c.self.view_is)))

told : (c : After-drop-self-inside)
    → IsClosed c.args.self.first c.args.seats c.take-medium.result.medium.state c.from_vec.result
told c =
    let l =
    led c.args.self c.args.seats c.into_vec-rest.result.items c.remove.new.self.items c.remove.result
    c.into_vec-rest.ensures c.requires
    (λ some. at_index c.into_vec-rest.result.items 0 c.remove.result some c.remove.ensures.value)
    c.remove.ensures.items in
    closed_as c.self.inside.table.shared.key.value c.lead.inside.place.table_id c.gather.new.lead.id c.args.self
    c.lead.inside.place.me.0 c.gather.new.lead.me.0 c.lead.inside.concerned
    c.args.seats c.remove.result c.remove.new.self.items _ _ c.take-medium.result c.from_vec.result
    c.requires l c.lead.view_is c.lead.invariant.2 c.lead.invariant.3 (ap (λ (b : BusValue). b.first) c.self.view_is)
    (ap (λ (m : Me Slot View). m.0) c.gather.ensures.views) c.close_with-closed.ensures.values.2
    c.take-medium.ensures.value c.from_vec.ensures

pub returns-clause-medium : goal.returns-clause-medium
returns-clause-medium c = (told c).0

pub returns-clause-right : goal.returns-clause-right
returns-clause-right c = (told c).1

pub returns-clause-none_removed : goal.returns-clause-none_removed
returns-clause-none_removed c = none_removed c.args.self.first c.from_vec.result (told c).1

pub returns-clause-seats : goal.returns-clause-seats
returns-clause-seats c = (told c).2
