use Rattle.std.proofs.Common.{◌≡◌, ◌++◌, drop}
use Rattle.grs_gen.specs.Rounds.{switch_in, systems_round}
use Rattle.grs_gen.proofs.rounds.round_events.Given as goal

abbrev pub invariant-loop-place : goal.invariant-loop-place
invariant-loop-place l =
    l.out ++ systems_round l.place (drop l.place l.deck.systems) l.deck.entries
    ≡ switch_in l.round ++ systems_round 0 l.deck.systems l.deck.entries
