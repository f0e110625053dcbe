use Rattle.grs_world.proofs.gather.NeverOrdered.{none_by_desks}
use Rattle.grs_world.proofs.laws.decks_without_removals_are_spared.Goals as goal

pub returns : goal.returns
returns c = none_by_desks
