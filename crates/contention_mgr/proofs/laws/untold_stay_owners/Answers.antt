use Rattle.contention_mgr.proofs.OwnLemmas.{untold_stay_owners}
use Rattle.contention_mgr.proofs.laws.untold_stay_owners.Goals as goal

pub returns : goal.returns
returns c = untold_stay_owners
