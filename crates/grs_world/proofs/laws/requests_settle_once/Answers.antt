use Rattle.grs_world.proofs.gather.once.Run.{settles_run}
use Rattle.grs_world.proofs.laws.requests_settle_once.Goals as goal

pub returns : goal.returns
returns c = settles_run
