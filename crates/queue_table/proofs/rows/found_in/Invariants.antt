use Rattle.std.proofs.Common.{◌≡◌, ◌++◌, None, drop}
use Rattle.queue_table.specs.Shown.{kept, numbers_of, may_show}
use Rattle.queue_table.proofs.rows.found_in.Given as goal

abbrev pub invariant-loop-i : goal.invariant-loop-i
invariant-loop-i g l =
    numbers_of l.found.items
    ++ kept (may_show None l.chosen) (g.Q.Queues.elements l.queues) (drop l.i l.numbers.entries)
    ≡ kept (may_show None l.chosen) (g.Q.Queues.elements l.queues) l.numbers.entries
