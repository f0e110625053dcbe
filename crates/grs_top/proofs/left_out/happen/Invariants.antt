use Rattle.std.proofs.Common.{◌≡◌, true, drop}
use Rattle.grs_world.specs.World.{run_from}
use Rattle.grs_top.specs.LeftOut.{is_idle_at, lasting}
use Rattle.grs_top.proofs.left_out.happen.Given as goal

abbrev pub invariant-loop-event : goal.invariant-loop-event
invariant-loop-event l = record {
  deck : l.world.deck ≡ l.initial.world.deck;
  idle : l.idle ≡ true → is_idle_at l.world.world l.last ≡ true;
  world :
      lasting (run_from l.initial.world.deck l.world.world (drop l.event-index l.events))
      ≡ lasting (run_from l.initial.world.deck l.initial.world.world l.events);
}
