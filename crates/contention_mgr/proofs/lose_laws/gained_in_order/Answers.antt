use Rattle.contention_mgr.proofs.GainLemmas.{gained_in_order}
use Rattle.contention_mgr.proofs.lose_laws.gained_in_order.Goals as goal

pub returns : goal.returns
returns c = gained_in_order
