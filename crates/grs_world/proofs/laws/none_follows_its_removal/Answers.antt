use Rattle.grs_world.proofs.gather.NeverStar.{none_follows}
use Rattle.grs_world.proofs.laws.none_follows_its_removal.Goals as goal

pub returns : goal.returns
returns c = none_follows
