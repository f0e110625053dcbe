use Rattle.grs_known.proofs.known.ItemLaws.{items_are_history}
use Rattle.grs_known.proofs.laws.items_are_history.Goals as goal

pub returns : goal.returns
returns c = items_are_history
