use Rattle.contention_mgr.proofs.LawProofs.{first_is_any}
use Rattle.contention_mgr.proofs.laws.first_is_any.Goals as goal

pub returns : goal.returns
returns c = first_is_any
