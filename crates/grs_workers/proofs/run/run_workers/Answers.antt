use Rattle.std.proofs.Common.{sym, subst}
use Rattle.grs_bus.specs.Seats.{AllSeats, AreTheSeats, Agrees}
use Rattle.grs_workers.specs.Beside.{RanBeside}
use Rattle.grs_workers.proofs.RanLaws.{seats_back, ran, all_last}
use Rattle.grs_workers.proofs.run.run_workers.Goals as goal

pub close-medium-requires : goal.close-medium-requires
close-medium-requires g c =
    let vs = c.in_ok-bus.first in let ws = c.in_ok-workers.workers in
    subst (AreTheSeats c.in_ok-bus.bus) (sym c.in_ok-nodes.ensures.seats)
    (seats_back c.args.deck.now c.in_ok-bus.bus vs.items ws.items c.in_ok-bus.ensures.workers
    c.in_ok-workers.ensures.count c.in_ok-workers.ensures.grew)

pub returns-clause-ran : goal.returns-clause-ran
returns-clause-ran g c =
    let vs = c.in_ok-bus.first in let ws = c.in_ok-workers.workers in
    let agree = subst (AllSeats (Agrees c.close-medium.result.1)) c.in_ok-nodes.ensures.seats
    c.close-medium.ensures.seats in
    subst (RanBeside c.args.deck.now c.close-medium.result.0.state c.close-medium.result.1)
    (sym c.in_ok-nodes.ensures.nodes)
    (ran c.args.deck.now c.in_ok-bus.bus vs.items ws.items c.in_ok-bus.ensures.workers c.in_ok-workers.ensures.count
    c.in_ok-workers.ensures.grew c.close-medium.result.1 agree c.close-medium.result.0.state
    c.in_ok-bus.ensures.first c.close-medium.ensures.medium c.close-medium.ensures.right
    c.close-medium.ensures.none_removed)

pub returns-clause-last : goal.returns-clause-last
returns-clause-last g c =
    let vs = c.in_ok-bus.first in let ws = c.in_ok-workers.workers in
    let agree = subst (AllSeats (Agrees c.close-medium.result.1)) c.in_ok-nodes.ensures.seats
    c.close-medium.ensures.seats in
    all_last c.args.deck.now c.in_ok-bus.bus vs.items ws.items c.in_ok-bus.ensures.workers
    c.in_ok-workers.ensures.count c.in_ok-workers.ensures.grew c.close-medium.result.1 agree
    c.in_ok-bus.ensures.first c.in_ok-workers.ensures.over
