use Rattle.grs_known.proofs.known.Pasts.{elements_are_of_items}
use Rattle.grs_known.proofs.laws.elements_are_of_items.Goals as goal

pub returns : goal.returns
returns c = elements_are_of_items
