use Rattle.grs_known.proofs.known.Knowing.{all_is_known}
use Rattle.grs_known.proofs.laws.all_is_known.Goals as goal

pub returns : goal.returns
returns c = all_is_known
