use Rattle.grs_medium.proofs.Removals.{removal_wakes}
use Rattle.grs_medium.proofs.laws.removal_wakes.Goals as goal

pub returns : goal.returns
returns c = removal_wakes
