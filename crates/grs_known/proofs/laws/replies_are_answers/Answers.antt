use Rattle.grs_known.proofs.known.ItemLaws.{replies_are_answers}
use Rattle.grs_known.proofs.laws.replies_are_answers.Goals as goal

pub returns : goal.returns
returns c = replies_are_answers
