use Rattle.grs_analyze.proofs.FoundLaws.{deadlocks_are_found}
use Rattle.grs_analyze.proofs.laws.deadlocks_are_found.Goals as goal

pub returns : goal.returns
returns c = deadlocks_are_found
