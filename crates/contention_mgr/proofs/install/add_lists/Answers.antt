use Rattle.contention_mgr.proofs.InstallLemmas.{absent-list, lists-next}
use Rattle.contention_mgr.proofs.install.add_lists.Goals as goal

pub add_elem-requires : goal.add_elem-requires
add_elem-requires c =
    absent-list c.args.recs.now c.loop-rec.rec-index c.rec-item.result c.loop-rec.table.elements c.loop-rec-test.true
    c.rec-item.is c.requires.apart c.loop-rec.invariant

pub loop-rec-preserved : goal.loop-rec-preserved
loop-rec-preserved c =
    lists-next c.args.recs.now c.loop-rec.rec-index c.rec-item.result c.loop-rec.table.elements
    c.add_elem.new.table.elements c.loop-rec-test.true c.rec-item.is c.in_ok-add_elem.ensures c.loop-rec.invariant
