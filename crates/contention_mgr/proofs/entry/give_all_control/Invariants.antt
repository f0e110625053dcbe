use Rattle.std.proofs.Common.{◌≡◌, length}
use Rattle.grs_base.specs.State.{State}
use Rattle.contention_mgr.specs.Manager.{with_control}
use Rattle.contention_mgr.specs.Marks.{mark_in, ranked_all, AreMarked}
use Rattle.contention_mgr.proofs.entry.give_all_control.Given as goal

abbrev pub invariant-tasks : goal.invariant-tasks
invariant-tasks l = (s : State) → AreMarked (mark_in l.fn.marks.names.entries l.fn.marks.marks.entries) s →
    (with_control l.system.0 l.res l.rest (ranked_all (mark_in l.marks.names.entries l.marks.marks.entries) s)
    ≡ with_control l.system.0 l.res l.tasks (ranked_all (mark_in l.fn.marks.names.entries l.fn.marks.marks.entries) s))
    × AreMarked (mark_in l.marks.names.entries l.marks.marks.entries) s

abbrev pub decreases-tasks : goal.decreases-tasks
decreases-tasks l = length l.rest
