use Rattle.grs_world.proofs.run.Changing.{changes_none}
use Rattle.grs_world.proofs.laws.changes_fix_nothing.Goals as goal

pub returns : goal.returns
returns c = changes_none
