use Rattle.grs_known.proofs.known.Coming.{others_keep}
use Rattle.grs_known.proofs.laws.others_keep.Goals as goal

pub returns : goal.returns
returns c = others_keep
