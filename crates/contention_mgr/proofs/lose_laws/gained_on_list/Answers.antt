use Rattle.contention_mgr.proofs.GainLemmas.{gained_on_list}
use Rattle.contention_mgr.proofs.lose_laws.gained_on_list.Goals as goal

pub returns : goal.returns
returns c = gained_on_list
