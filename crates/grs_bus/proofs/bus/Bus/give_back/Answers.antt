use Rattle.std.proofs.Common.{rules, ◌*◌, ap, sym, ◌∙◌}
use Rattle.atomic_table.specs.Table.{Me}
use Rattle.grs_bus.specs.Seats.{BusValue}
use Rattle.grs_bus.specs.declared.slot.Slot.{Slot}
use Rattle.grs_bus.specs.declared.view.View.{View}
use Rattle.grs_bus.proofs.RuleLaws.{unlocks}
use Rattle.grs_bus.proofs.bus.Bus.give_back.Goals as goal

pub store-requires : goal.store-requires
store-requires c = let t = c.requires.home in let table = ap (λ (b : BusValue). b.table) c.self.view_is in (
  c.requires.table ∙ sym table,
  search rules,
  unlocks _ _ _ _ t.0 _ t.1 c.requires.holds.0 c.requires.holds.1 t.2.0 (ap (λ n. n * 64) t.2.1),
)

pub wake-requires : goal.wake-requires
wake-requires c = let t = c.requires.home in ap (λ (m : Me Slot View). m.0.holding) (c.store.ensures.2 t.0 t.1)

pub returns-clause-gave : goal.returns-clause-gave
returns-clause-gave c = let t = c.requires.home in (t.0, t.1, c.store.ensures.2 t.0 t.1)
