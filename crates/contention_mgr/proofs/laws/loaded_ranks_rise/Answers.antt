use Rattle.contention_mgr.proofs.LawProofs.{loaded_ranks_rise}
use Rattle.contention_mgr.proofs.laws.loaded_ranks_rise.Goals as goal

pub returns : goal.returns
returns c = loaded_ranks_rise
