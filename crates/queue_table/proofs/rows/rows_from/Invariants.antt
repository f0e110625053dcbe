use Rattle.std.proofs.Common.{◌≡◌, ◌++◌, map, drop}
use Rattle.std.specs.Prelude.{filter}
use Rattle.grs_base.specs.Rows.{row_of}
use Rattle.queue_table.specs.Shown.{lists_at, passes}
use Rattle.queue_table.proofs.rows.rows_from.Given as goal

abbrev pub invariant-loop-one : goal.invariant-loop-one
invariant-loop-one g l =
    l.rows
    ++ filter (passes l.chosen) (map row_of (lists_at (g.Q.Queues.elements l.queues) (drop l.one-index l.found)))
    ≡ filter (passes l.chosen) (map row_of (lists_at (g.Q.Queues.elements l.queues) l.found))
