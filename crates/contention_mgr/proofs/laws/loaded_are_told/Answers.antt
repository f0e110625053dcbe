use Rattle.contention_mgr.proofs.OwnLemmas.{loaded_are_told}
use Rattle.contention_mgr.proofs.laws.loaded_are_told.Goals as goal

pub returns : goal.returns
returns c = loaded_are_told
