use Rattle.contention_mgr.proofs.OwnLemmas.{telling_tells}
use Rattle.contention_mgr.proofs.laws.telling_tells.Goals as goal

pub returns : goal.returns
returns c = telling_tells
