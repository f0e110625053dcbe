use Rattle.grs_track.proofs.Standing.{next_is_own}
use Rattle.grs_track.proofs.laws.next_is_own.Goals as goal

pub returns : goal.returns
returns c = next_is_own
