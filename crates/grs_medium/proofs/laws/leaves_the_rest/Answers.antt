use Rattle.grs_medium.proofs.KeepLaws.{leaves_the_rest}
use Rattle.grs_medium.proofs.laws.leaves_the_rest.Goals as goal

pub returns : goal.returns
returns c = leaves_the_rest
