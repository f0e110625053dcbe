use Rattle.grs_medium.proofs.StarCauses.{sent_comes}
use Rattle.grs_medium.proofs.laws.sent_comes.Goals as goal

pub returns : goal.returns
returns c = sent_comes
