use Rattle.contention_mgr.specs.Marks.{mark_in}
use Rattle.contention_mgr.proofs.InstallLemmas.{marks-next}
use Rattle.contention_mgr.proofs.install.add_marks.Goals as goal

pub loop-rec-preserved : goal.loop-rec-preserved
loop-rec-preserved c =
    marks-next (mark_in c.loop-rec.marks.names.entries c.loop-rec.marks.marks.entries)
    (mark_in c.add_mark.new.marks.names.entries c.add_mark.new.marks.marks.entries) c.args.system.0
    c.args.table.now.elements c.args.recs.now c.loop-rec.rec-index c.rec-item.result c.loop-rec-test.true c.rec-item.is
    c.requires.apart c.in_ok-add_mark.ensures c.loop-rec.invariant
