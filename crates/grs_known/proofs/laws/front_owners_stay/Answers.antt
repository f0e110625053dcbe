use Rattle.grs_known.proofs.known.Fronts.{front_owners_stay}
use Rattle.grs_known.proofs.laws.front_owners_stay.Goals as goal

pub returns : goal.returns
returns c = front_owners_stay
