use Rattle.grs_world.proofs.run.Laps.{comes_back_last}
use Rattle.grs_world.proofs.laws.requests_come_back_last.Goals as goal

pub returns : goal.returns
returns c = comes_back_last
