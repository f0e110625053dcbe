use Rattle.grs_known.proofs.ring.Parts.{table_is_part}
use Rattle.grs_known.proofs.laws.table_is_part.Goals as goal

pub returns : goal.returns
returns c = table_is_part
