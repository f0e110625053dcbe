use Rattle.grs_medium.proofs.Removals.{removal_is_noticed}
use Rattle.grs_medium.proofs.laws.removal_is_noticed.Goals as goal

pub returns : goal.returns
returns c = removal_is_noticed
