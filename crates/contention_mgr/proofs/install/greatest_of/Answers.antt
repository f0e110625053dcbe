use Rattle.contention_mgr.proofs.InstallLemmas.{greatest-next}
use Rattle.contention_mgr.proofs.install.greatest_of.Goals as goal

pub loop-rec-preserved : goal.loop-rec-preserved
loop-rec-preserved c =
    greatest-next c.args.recs.now c.loop-rec.rec-index c.loop-rec.most c.max-most.result _ c.rec-item.result
    c.loop-rec-test.true c.rec-item.is c.max-most.ensures c.loop-rec.invariant
