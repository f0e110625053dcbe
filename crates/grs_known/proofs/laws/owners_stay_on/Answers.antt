use Rattle.grs_known.proofs.ring.Reading.{owners_stay_on}
use Rattle.grs_known.proofs.laws.owners_stay_on.Goals as goal

pub returns : goal.returns
returns c = owners_stay_on
