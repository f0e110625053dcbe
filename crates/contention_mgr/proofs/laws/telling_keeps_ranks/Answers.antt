use Rattle.contention_mgr.proofs.LawProofs.{telling_keeps_ranks}
use Rattle.contention_mgr.proofs.laws.telling_keeps_ranks.Goals as goal

pub returns : goal.returns
returns c = telling_keeps_ranks
