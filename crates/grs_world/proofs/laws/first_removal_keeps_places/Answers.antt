use Rattle.grs_world.proofs.shown.FirstRemoval.{kept-removal}
use Rattle.grs_world.proofs.laws.first_removal_keeps_places.Goals as goal

pub returns : goal.returns
returns c = kept-removal
