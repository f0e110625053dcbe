use Rattle.contention_mgr.proofs.OwnLemmas.{untold_own_begins}
use Rattle.contention_mgr.proofs.laws.untold_own_begins.Goals as goal

pub returns : goal.returns
returns c = untold_own_begins
