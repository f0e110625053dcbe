use Rattle.grs_known.proofs.known.Pasts.{past_speaks_of}
use Rattle.grs_known.proofs.laws.past_speaks_of.Goals as goal

pub returns : goal.returns
returns c = past_speaks_of
