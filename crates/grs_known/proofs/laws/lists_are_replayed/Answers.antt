use Rattle.grs_known.proofs.known.ItemLaws.{lists_are_replayed}
use Rattle.grs_known.proofs.laws.lists_are_replayed.Goals as goal

pub returns : goal.returns
returns c = lists_are_replayed
