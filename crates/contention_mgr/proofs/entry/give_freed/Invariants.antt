use Rattle.std.proofs.Common.{◌≡◌, length}
use Rattle.grs_base.specs.State.{State}
use Rattle.contention_mgr.specs.Loses.{with_freed}
use Rattle.contention_mgr.specs.Marks.{mark_in, ranked_all, AreMarked}
use Rattle.contention_mgr.proofs.entry.give_freed.Given as goal

abbrev pub invariant-all : goal.invariant-all
invariant-all l = (s : State) → AreMarked (mark_in l.fn.marks.names.entries l.fn.marks.marks.entries) s →
    (with_freed l.system.0 l.rest (ranked_all (mark_in l.marks.names.entries l.marks.marks.entries) s)
    ≡ with_freed l.system.0 l.all (ranked_all (mark_in l.fn.marks.names.entries l.fn.marks.marks.entries) s))
    × AreMarked (mark_in l.marks.names.entries l.marks.marks.entries) s

abbrev pub decreases-all : goal.decreases-all
decreases-all l = length l.rest
