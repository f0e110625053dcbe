use Rattle.grs_analyze.proofs.GreatestLaws.{greatest_is_greatest}
use Rattle.grs_analyze.proofs.laws.greatest_is_greatest.Goals as goal

pub returns : goal.returns
returns c = greatest_is_greatest
