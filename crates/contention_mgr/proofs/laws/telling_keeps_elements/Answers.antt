use Rattle.contention_mgr.proofs.ElementLemmas.{telling_keeps_elements}
use Rattle.contention_mgr.proofs.laws.telling_keeps_elements.Goals as goal

pub returns : goal.returns
returns c = telling_keeps_elements
