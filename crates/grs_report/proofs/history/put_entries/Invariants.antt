use Rattle.std.proofs.Common.{◌≡◌, ◌+◌, ◌++◌, drop}
use Rattle.grs_report.specs.History.{history_lines}
use Rattle.grs_report.proofs.history.put_entries.Given as goal

abbrev pub invariant-loop-i : goal.invariant-loop-i
invariant-loop-i l =
    l.out ++ history_lines l.names (l.i + 1) (drop l.i l.hist) ≡ l.initial.out ++ history_lines l.names 1 l.hist
