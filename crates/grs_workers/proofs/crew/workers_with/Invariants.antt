use Rattle.std.proofs.Common.{◌≡◌, ◌<◌, ◌++◌, length, map}
use Rattle.std.specs.Prelude.{All}
use Rattle.grs_workers.specs.Stands.{stand, first_stand}
use Rattle.grs_workers.proofs.crew.workers_with.Given as goal

abbrev pub invariant-loop-seat : goal.invariant-loop-seat
invariant-loop-seat l = record {
  workers : map stand l.workers.items ++ map (first_stand l.deck) l.seat-iterator.rest.items
      ≡ map (first_stand l.deck) l.fn.seats;
  systems : All (λ v. v.system.0 < length l.deck.systems) l.seat-iterator.rest.items;
}
