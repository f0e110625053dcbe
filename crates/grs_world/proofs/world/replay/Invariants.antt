use Rattle.grs_world.proofs.Common.{◌≡◌, drop, run, run_from}
use Rattle.grs_world.proofs.world.replay.Given as goal

abbrev pub invariant-loop-event : goal.invariant-loop-event
invariant-loop-event l = record {
  deck : l.world.deck ≡ l.deck;
  world : run_from l.deck l.world.world (drop l.event-index l.events) ≡ run l.deck l.events;
}
