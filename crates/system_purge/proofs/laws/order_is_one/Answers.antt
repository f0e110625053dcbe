use Rattle.system_purge.proofs.Counting.{order_is_one}
use Rattle.system_purge.proofs.laws.order_is_one.Goals as goal

pub returns : goal.returns
returns c = order_is_one
