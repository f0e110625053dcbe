use Rattle.grs_world.proofs.run.Causes.{answers_causes}
use Rattle.grs_world.proofs.laws.answers_have_causes.Goals as goal

pub returns : goal.returns
returns c = answers_causes
