use Rattle.contention_mgr.proofs.OwnLemmas.{loaded_untold_own}
use Rattle.contention_mgr.proofs.laws.loaded_untold_own.Goals as goal

pub returns : goal.returns
returns c = loaded_untold_own
