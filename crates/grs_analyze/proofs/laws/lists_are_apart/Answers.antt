use Rattle.grs_analyze.proofs.RowLaws.{rows-apart}
use Rattle.grs_analyze.proofs.laws.lists_are_apart.Goals as goal

pub returns : goal.returns
returns c = rows-apart
