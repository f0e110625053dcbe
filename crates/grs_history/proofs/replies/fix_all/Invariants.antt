use Rattle.std.proofs.Common.{◌≡◌, ◌++◌, drop}
use Rattle.grs_wire.specs.History.{answered_from}
use Rattle.grs_history.proofs.replies.fix_all.Given as goal

abbrev pub invariant-loop-one : goal.invariant-loop-one
invariant-loop-one l =
    l.hist ++ answered_from l.table.elements (drop l.one-index l.fixed)
    ≡ l.initial.hist ++ answered_from l.initial.table.elements l.fixed
