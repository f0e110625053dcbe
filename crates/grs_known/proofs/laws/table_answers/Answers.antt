use Rattle.grs_known.proofs.ring.Reading.{table_answers}
use Rattle.grs_known.proofs.laws.table_answers.Goals as goal

pub returns : goal.returns
returns c = table_answers
