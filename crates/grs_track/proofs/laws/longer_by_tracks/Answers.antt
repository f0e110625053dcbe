use Rattle.grs_track.proofs.Standing.{longer_by_tracks}
use Rattle.grs_track.proofs.laws.longer_by_tracks.Goals as goal

pub returns : goal.returns
returns c = longer_by_tracks
