use Rattle.grs_known.proofs.known.ItemLaws.{entries_are_of_items}
use Rattle.grs_known.proofs.laws.entries_are_of_items.Goals as goal

pub returns : goal.returns
returns c = entries_are_of_items
