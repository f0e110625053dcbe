use Rattle.contention_mgr.proofs.LawProofs.{first_is_untold}
use Rattle.contention_mgr.proofs.laws.first_is_untold.Goals as goal

pub returns : goal.returns
returns c = first_is_untold
