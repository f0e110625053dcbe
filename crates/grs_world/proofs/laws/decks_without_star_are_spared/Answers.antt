use Rattle.grs_world.proofs.gather.NeverStar.{none_by_ring}
use Rattle.grs_world.proofs.laws.decks_without_star_are_spared.Goals as goal

pub returns : goal.returns
returns c = none_by_ring
