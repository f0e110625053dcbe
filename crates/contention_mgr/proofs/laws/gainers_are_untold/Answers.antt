use Rattle.contention_mgr.proofs.OwnLemmas.{gainers_are_untold}
use Rattle.contention_mgr.proofs.laws.gainers_are_untold.Goals as goal

pub returns : goal.returns
returns c = gainers_are_untold
