use Rattle.std.proofs.Common.{◌≡◌, drop}
use Rattle.grs_wire.specs.History.{replay_from}
use Rattle.grs_history.proofs.queues.rows_after.Given as goal

abbrev pub invariant-loop-entry : goal.invariant-loop-entry
invariant-loop-entry l =
    replay_from l.limit l.table.elements (drop l.entry-index l.hist)
    ≡ replay_from l.limit l.initial.table.elements l.hist
