use Rattle.grs_known.proofs.ring.Reading.{reading_is_right}
use Rattle.grs_known.proofs.laws.reading_is_right.Goals as goal

pub returns : goal.returns
returns c = reading_is_right
