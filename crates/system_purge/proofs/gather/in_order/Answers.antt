use Rattle.system_purge.proofs.Counting.{in-order}
use Rattle.system_purge.proofs.gather.in_order.Goals as goal

pub returns : goal.returns
returns c = in-order c.args.recs c.by_rank.result c.requires c.by_rank.ensures.same c.by_rank.ensures.sorted
