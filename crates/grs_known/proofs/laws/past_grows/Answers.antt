use Rattle.grs_known.proofs.known.Pasts.{past_grows}
use Rattle.grs_known.proofs.laws.past_grows.Goals as goal

pub returns : goal.returns
returns c = past_grows
