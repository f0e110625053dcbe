use Rattle.grs_world.proofs.gather.once.Run.{noticed_run}
use Rattle.grs_world.proofs.laws.answers_come_first.Goals as goal

pub returns : goal.returns
returns c = noticed_run
