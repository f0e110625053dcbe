use Rattle.contention_mgr.proofs.ElementLemmas.{losing_keeps_elements}
use Rattle.contention_mgr.proofs.laws.losing_keeps_elements.Goals as goal

pub returns : goal.returns
returns c = losing_keeps_elements
