use Rattle.contention_mgr.proofs.GainLemmas.{gained_are_freed}
use Rattle.contention_mgr.proofs.lose_laws.gained_are_freed.Goals as goal

pub returns : goal.returns
returns c = gained_are_freed
