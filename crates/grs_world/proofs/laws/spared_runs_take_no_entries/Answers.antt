use Rattle.grs_world.proofs.loss.Spared.{spared-takes}
use Rattle.grs_world.proofs.laws.spared_runs_take_no_entries.Goals as goal

pub returns : goal.returns
returns c = spared-takes
