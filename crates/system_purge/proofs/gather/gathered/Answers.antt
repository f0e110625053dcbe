use Rattle.std.proofs.Common.{◌∙◌, ap}
use Rattle.system_purge.specs.Gather.{by_rank, counting}
use Rattle.system_purge.proofs.Counting.{clear-distinct, clear-moved, in-order-is}
use Rattle.system_purge.proofs.gather.gathered.Goals as goal

pub in_order-requires : goal.in_order-requires
in_order-requires c = clear-distinct _ c.in_ok-recs.ensures.clear

pub returns-clause-clear : goal.returns-clause-clear
returns-clause-clear c = clear-moved _ _ c.in_order.ensures.same c.in_ok-recs.ensures.clear

pub returns-clause-recs : goal.returns-clause-recs
returns-clause-recs c =
    in-order-is _ _ (clear-distinct _ c.in_ok-recs.ensures.clear) c.in_order.ensures
    ∙ ap by_rank (c.in_ok-recs.ensures.count ∙ ap counting c.in_ok-all.ensures)
