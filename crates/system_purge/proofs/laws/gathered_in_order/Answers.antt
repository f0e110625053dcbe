use Rattle.system_purge.proofs.Counting.{gathered_in_order}
use Rattle.system_purge.proofs.laws.gathered_in_order.Goals as goal

pub returns : goal.returns
returns c = gathered_in_order
