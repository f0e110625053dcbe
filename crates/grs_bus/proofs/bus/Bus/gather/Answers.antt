use Rattle.std.proofs.Common.{rules, List, [], ◌∷◌, ◌++◌, length, sym, ap, ◌∙◌, refl, append_assoc}
use lib.ListN.{get_elem?}
use Rattle.atomic_table.specs.Table.{Me}
use Rattle.atomic_table.proofs.Lists.{at_last, at_longer}
use Rattle.grs_base.specs.declared.resource.SysId.{SysId}
use Rattle.grs_bus.specs.Rule.{past_of_seat, joined, joined_all}
use Rattle.grs_bus.specs.Seats.{BusValue, SeatValue}
use Rattle.grs_bus.specs.declared.slot.Slot.{Slot}
use Rattle.grs_bus.specs.declared.view.View.{View}
use Rattle.grs_bus.proofs.RuleLaws.{joins}
use Rattle.grs_bus.proofs.EndLaws.{still}
use Rattle.grs_bus.proofs.bus.Bus.gather.Goals as goal

pub join_seat-requires : goal.join_seat-requires
join_seat-requires c =
    let inv = c.loop-seat.invariant in let same = still c.loop-seat.lead.me c.args.lead.now.me.0 inv.3.0 inv.3.2 in
    let rests = c.seat.invariant in
    let lead = c.requires.rests in
    let table = ap (λ (b : BusValue). b.table) c.self.view_is in
    let last =
    ap (λ (l : List SeatValue). get_elem? l (length c.pop.new.self.items)) c.in-Some.ensures.items
    ∙ at_last c.pop.new.self.items c.in-Some.seat _ refl in (
      inv.0 ∙ (c.requires.table ∙ sym table),
      ap (λ (v : SeatValue). v.bus.table) c.seat.view_is
          ∙ (inv.2 (length c.pop.new.self.items) c.in-Some.seat last ∙ sym table),
      rests.0,
      search rules,
      joins _ _ _ _ _ (same.0 ∙ lead.2) (same.1 ∙ lead.3) (ap (λ (s : SysId). s.0) (same.2 ∙ lead.1)) rests.2 rests.3,
    )

pub loop-seat-preserved : goal.loop-seat-preserved
loop-seat-preserved c =
    let inv = c.loop-seat.invariant in let items = c.in-Some.ensures.items in let seat = c.in-Some.seat in
    let before : View = joined_all c.args.lead.now.me.0 inv.3.0 in let other = c.seat.inside.place.me.0 in
    let taken_in =
    ap (λ (x : SeatValue). record before { olds = before.olds ++ past_of_seat x ∷ [] }) c.seat.view_is in (
      search rules,
      search rules,
      (λ i s e.
          inv.2 i s (ap (λ (l : List SeatValue). get_elem? l i) items
          ∙ at_longer c.pop.new.self.items (seat ∷ []) i s e)),
      (
        seat ∷ inv.3.0,
        sym (append_assoc c.pop.new.self.items (seat ∷ []) inv.3.0) ∙ (ap (λ l. l ++ inv.3.0) (sym items) ∙ inv.3.1),
        c.join_seat.ensures.2
            ∙ (ap (λ (m : Me Slot View). (joined m.0 other, m.1)) inv.3.2 ∙ ap (λ (v : View). (v, [])) taken_in),
      ),
    )
