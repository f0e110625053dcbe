use Rattle.system_purge.proofs.Counting.{none_is_missing}
use Rattle.system_purge.proofs.laws.none_is_missing.Goals as goal

pub returns : goal.returns
returns c = none_is_missing
