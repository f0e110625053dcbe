use Rattle.contention_mgr.proofs.OwnLemmas.{telling_keeps_untold_own}
use Rattle.contention_mgr.proofs.laws.telling_keeps_untold_own.Goals as goal

pub returns : goal.returns
returns c = telling_keeps_untold_own
