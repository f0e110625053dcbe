use Rattle.grs_known.proofs.known.Pasts.{past_speaks}
use Rattle.grs_known.proofs.laws.past_speaks.Goals as goal

pub returns : goal.returns
returns c = past_speaks
