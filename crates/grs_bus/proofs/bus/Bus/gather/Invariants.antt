use Rattle.std.proofs.Common.{◌≡◌, List, [], ◌++◌}
use Rattle.grs_bus.specs.Rule.{joined_all}
use Rattle.grs_bus.specs.Seats.{SeatValue, AllSeats}
use Rattle.grs_bus.proofs.bus.Bus.gather.Given as goal

abbrev pub invariant-loop-seat : goal.invariant-loop-seat
invariant-loop-seat l =
    (l.lead.table_id ≡ l.initial.lead.table_id) × (l.lead.id ≡ l.initial.lead.id)
    × AllSeats (λ (v : SeatValue). v.bus.table ≡ l.self.table) l.rest.items
    × ((gone : List SeatValue) × (l.rest.items ++ gone ≡ l.initial.rest.items)
    × (l.lead.me ≡ (joined_all l.initial.lead.me.0 gone, [])))

abbrev pub decreases-loop-seat : goal.decreases-loop-seat
decreases-loop-seat l = goal.left-loop-seat l
