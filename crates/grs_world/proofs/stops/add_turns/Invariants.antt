use Rattle.grs_world.proofs.Common.{◌++◌, ◌≡◌}
use Rattle.grs_world.proofs.stops.add_turns.Given as goal

abbrev pub invariant-loop-turn : goal.invariant-loop-turn
invariant-loop-turn l = l.events ++ l.turn-iterator.rest.items ≡ l.fn.events ++ l.fn.turns
