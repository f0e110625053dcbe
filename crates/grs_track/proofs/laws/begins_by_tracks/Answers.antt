use Rattle.grs_track.proofs.Standing.{begins_by_tracks}
use Rattle.grs_track.proofs.laws.begins_by_tracks.Goals as goal

pub returns : goal.returns
returns c = begins_by_tracks
