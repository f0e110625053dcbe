use Rattle.std.proofs.Common.{rules, ◌≡◌, ◌<◌, List, [], ◌∷◌, ◌++◌, length, map, ap, sym, ◌∙◌, subst, append_assoc}
use Rattle.std.specs.Prelude.{All}
use Rattle.std.proofs.lemmas.List.Elements.{All-tail}
use Rattle.grs_bus.specs.Seats.{SeatValue}
use Rattle.grs_workers.specs.Stands.{Stand, stand, first_stand}
use Rattle.grs_workers.proofs.crew.workers_with.Goals as goal

pub loop-seat-preserved : goal.loop-seat-preserved
loop-seat-preserved c =
    let rest : c.loop-seat.seat-iterator.rest.items ≡ c.in-Some.seat ∷ c.next.new.self.rest.items = search rules in
    record {
      workers =
          ap (λ (l : List Stand). l ++ map (first_stand c.args.deck.now) c.next.new.self.rest.items)
          c.in_ok-add_worker.ensures
          ∙ append_assoc (map stand c.loop-seat.workers.items) (first_stand c.args.deck.now c.in-Some.seat ∷ [])
          (map (first_stand c.args.deck.now) c.next.new.self.rest.items)
          ∙ ap (λ (vs : List SeatValue). map stand c.loop-seat.workers.items ++ map (first_stand c.args.deck.now) vs)
          (sym rest)
          ∙ c.loop-seat.invariant.workers;
      systems =
          All-tail (λ (v : SeatValue). v.system.0 < length c.args.deck.now.systems) c.in-Some.seat
          c.next.new.self.rest.items
          (subst (λ (vs : List SeatValue). All (λ (v : SeatValue). v.system.0 < length c.args.deck.now.systems) vs) rest
          c.loop-seat.invariant.systems);
    }
