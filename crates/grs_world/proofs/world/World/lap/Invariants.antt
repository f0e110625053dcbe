use Rattle.grs_world.proofs.Common.{◌*◌, ◌++◌, ◌+◌, ◌≡◌, ◌≤◌, lap, length, run_from}
use Rattle.grs_world.specs.Stopped.{lap_from, live_count, next_of}
use Rattle.grs_world.proofs.world.World.lap.Given as goal

abbrev pub invariant-turns : goal.invariant-turns
invariant-turns l = record {
  deck : l.self.deck ≡ l.fn.self.deck;
  turns :
      l.turns ++ lap_from l.self.deck l.most l.left l.self.world (next_of l.left l.self.world)
      ≡ lap l.fn.self.deck l.fn.self.world;
  world : l.self.world ≡ run_from l.fn.self.deck l.fn.self.world l.turns;
  few : length l.turns + l.most ≤ 2 * live_count l.fn.self.world;
}

abbrev pub decreases-turns : goal.decreases-turns
decreases-turns l = l.most
