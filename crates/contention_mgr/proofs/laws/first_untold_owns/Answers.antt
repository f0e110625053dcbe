use Rattle.contention_mgr.proofs.OwnLemmas.{first_untold_owns}
use Rattle.contention_mgr.proofs.laws.first_untold_owns.Goals as goal

pub returns : goal.returns
returns c = first_untold_owns
