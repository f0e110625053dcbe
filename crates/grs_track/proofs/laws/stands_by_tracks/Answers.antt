use Rattle.grs_track.proofs.Standing.{stands_by_tracks}
use Rattle.grs_track.proofs.laws.stands_by_tracks.Goals as goal

pub returns : goal.returns
returns c = stands_by_tracks
