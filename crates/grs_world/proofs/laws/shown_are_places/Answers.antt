use Rattle.grs_world.proofs.loss.Shown.{losses_shown}
use Rattle.grs_world.proofs.shown.Run.{shown_ranks}
use Rattle.grs_world.proofs.laws.shown_are_places.Goals as goal

pub returns-clause-places : goal.returns-clause-places
returns-clause-places c = losses_shown

pub returns-clause-ranks : goal.returns-clause-ranks
returns-clause-ranks c = shown_ranks
