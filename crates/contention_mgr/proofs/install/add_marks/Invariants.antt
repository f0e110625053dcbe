use Rattle.contention_mgr.specs.Marks.{mark_in}
use Rattle.contention_mgr.proofs.InstallLemmas.{KeptFirst}
use Rattle.contention_mgr.proofs.install.add_marks.Given as goal

abbrev pub invariant-loop-rec : goal.invariant-loop-rec
invariant-loop-rec l =
    KeptFirst (mark_in l.marks.names.entries l.marks.marks.entries) l.system.0 l.table.elements l.recs l.rec-index
