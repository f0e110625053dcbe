use Rattle.std.proofs.Common.{◌≡◌, ◌+◌, [], length}
use Rattle.grs_bus.specs.Rule.{newcomer}
use Rattle.grs_bus.proofs.EndLaws.{AreDealt}
use Rattle.grs_bus.proofs.bus.Bus.deal.Given as goal

abbrev pub invariant-loop-number : goal.invariant-loop-number
invariant-loop-number l =
    (l.lead.table_id ≡ l.self.table) × (l.lead.me ≡ (newcomer l.fn.place.me.0.first (record { 0 = 0 }) [] l.number, []))
    × (length l.others + 1 ≡ l.number) × AreDealt l.self l.others
