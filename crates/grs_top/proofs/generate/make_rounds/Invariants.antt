use Rattle.std.proofs.Common.{◌≡◌, ◌-◌}
use Rattle.grs_top.specs.Generated.{most_rounds, rounds_from, rounds_of}
use Rattle.grs_top.specs.LeftOut.{lasting_of}
use Rattle.grs_top.proofs.generate.make_rounds.Given as goal

abbrev pub invariant-loop-rounds : goal.invariant-loop-rounds
invariant-loop-rounds l = record {
  deck : l.world.deck ≡ l.deck;
  left :
      lasting_of
      (rounds_from l.deck (most_rounds - l.rounds) (record { world = l.world.world; made = l.rounds; events = l.events }))
      ≡ lasting_of (rounds_of l.deck);
}
