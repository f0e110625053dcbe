use Rattle.std.proofs.Common.{◌≡◌, drop}
use Rattle.std.specs.Prelude.{is_some, slice_get}
use Rattle.grs_legal.specs.Asks.{lines_at, lines_in, scripts_from}
use Rattle.grs_node.proofs.scripts.is_among.Given as goal

abbrev pub invariant-loop-number : goal.invariant-loop-number
invariant-loop-number l =
    is_some (lines_at l.task.job (slice_get (scripts_from l.number (drop l.number l.jobs)) l.place))
    ≡ is_some (lines_in (scripts_from 0 l.jobs) l.task)
