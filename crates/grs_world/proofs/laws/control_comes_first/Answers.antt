use Rattle.grs_world.proofs.gather.once.ControlRun.{control_run}
use Rattle.grs_world.proofs.laws.control_comes_first.Goals as goal

pub returns : goal.returns
returns c = control_run
