use Rattle.std.proofs.Common.{◌≡◌, ◌<◌, ℕ, List, length, get_or, ap, sym, subst, ◌∙◌}
use Rattle.std.specs.Prelude.{All}
use Rattle.grs_bus.specs.Seats.{SeatValue}
use Rattle.grs_medium.specs.Medium.{systems_of}
use Rattle.grs_workers.proofs.FirstStands.{at_place, seats-inside}
use Rattle.thread_tests.proofs.waking.two_seats.Goals as goal

pub returns-clause-bus : goal.returns-clause-bus
returns-clause-bus c =
    let bus = c.in_ok-bus.bus in let seats = c.in_ok-bus.seats in
    subst (All (λ (s : SeatValue). s.bus ≡ bus)) (sym c.into_vec-seats.ensures)
    (λ i d below. (c.in_ok-bus.ensures.seats.each i (get_or seats i d) (at_place seats i d below)).0)

pub returns-clause-systems : goal.returns-clause-systems
returns-clause-systems c =
    let bus = c.in_ok-bus.bus in
    let two : systems_of bus.first ≡ 2 = ap systems_of (c.in_ok-bus.ensures.first ∙ c.in_ok-medium.ensures.start) in
    subst (All (λ (s : SeatValue). s.system.0 < systems_of bus.first)) (sym c.into_vec-seats.ensures)
    (subst (λ (n : ℕ). All (λ (s : SeatValue). s.system.0 < n) c.in_ok-bus.seats) (sym two)
    (seats-inside bus c.in_ok-bus.seats 2 c.in_ok-bus.ensures.seats c.in_ok-bus.ensures.count))
