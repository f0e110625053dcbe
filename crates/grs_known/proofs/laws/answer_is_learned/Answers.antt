use Rattle.grs_known.proofs.known.Coming.{answer_is_learned}
use Rattle.grs_known.proofs.laws.answer_is_learned.Goals as goal

pub returns : goal.returns
returns c = answer_is_learned
