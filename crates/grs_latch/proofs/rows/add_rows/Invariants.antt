use Rattle.std.proofs.Common.{◌≡◌, ◌++◌, drop}
use Rattle.grs_latch.specs.Calls.{rows_in}
use Rattle.grs_latch.specs.Numbered.{lists_at}
use Rattle.grs_latch.proofs.rows.add_rows.Given as goal

abbrev pub invariant-loop-latch : goal.invariant-loop-latch
invariant-loop-latch g l =
    let lists = lists_at l.numbers (g.Q.Queues.elements l.queues) in
    l.rows ++ rows_in l.set l.latch (drop l.latch lists) ≡ l.initial.rows ++ rows_in l.set 0 lists
