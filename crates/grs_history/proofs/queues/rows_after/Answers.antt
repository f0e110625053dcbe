use Rattle.std.proofs.Common.{◌≡◌, subst}
use Rattle.std.specs.Prelude.{IfOk}
use Rattle.grs_base.specs.Rows.{rows_of}
use Rattle.grs_base.specs.State.{State}
use Rattle.grs_wire.specs.History.{replay_from}
use Rattle.grs_history.proofs.LoopLemmas.{replay-end}
use Rattle.grs_history.proofs.queues.rows_after.Goals as goal

pub returns : goal.returns
returns c =
    subst (λ (s : State). IfOk c.rows.result (λ rows. rows ≡ rows_of s))
    (replay-end c.args.limit c.loop-entry.table.elements
    (replay_from c.args.limit c.args.table.now.elements c.args.hist.now) c.args.hist.now
    c.loop-entry.entry-index c.loop-entry-test.false c.loop-entry.invariant)
    c.rows.ensures
