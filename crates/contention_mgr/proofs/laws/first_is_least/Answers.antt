use Rattle.contention_mgr.proofs.LawProofs.{first_is_least}
use Rattle.contention_mgr.proofs.laws.first_is_least.Goals as goal

pub returns : goal.returns
returns c = first_is_least
