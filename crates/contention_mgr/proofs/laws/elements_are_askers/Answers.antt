use Rattle.contention_mgr.proofs.ElementLemmas.{elements_are_askers}
use Rattle.contention_mgr.proofs.laws.elements_are_askers.Goals as goal

pub returns : goal.returns
returns c = elements_are_askers
