use Rattle.grs_world.proofs.lap.Ends.{laps_end}
use Rattle.grs_world.proofs.laws.laps_end.Goals as goal

pub returns : goal.returns
returns c = laps_end
