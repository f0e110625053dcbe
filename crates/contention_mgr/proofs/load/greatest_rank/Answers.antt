use Rattle.contention_mgr.proofs.LoadLemmas.{ranks-more}
use Rattle.contention_mgr.proofs.load.greatest_rank.Goals as goal

pub rows-preserved : goal.rows-preserved
rows-preserved c =
    ranks-more c.rows.most c.greatest_in-most.result c.in-Some.row.now c.rows.rest.now c.in-Some.tail.now
    c.as_slice.result.now _ c.in-Some.ensures.cases.0 c.greatest_in-most.ensures c.as_slice.ensures c.rows.invariant
