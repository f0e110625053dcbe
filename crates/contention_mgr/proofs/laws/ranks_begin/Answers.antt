use Rattle.contention_mgr.proofs.LawProofs.{ranks_begin}
use Rattle.contention_mgr.proofs.laws.ranks_begin.Goals as goal

pub returns : goal.returns
returns c = ranks_begin
