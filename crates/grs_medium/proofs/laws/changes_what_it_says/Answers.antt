use Rattle.grs_medium.proofs.ChangeLaws.{changes_what_it_says}
use Rattle.grs_medium.proofs.laws.changes_what_it_says.Goals as goal

pub returns : goal.returns
returns c = changes_what_it_says
