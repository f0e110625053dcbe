use Rattle.std.proofs.Common.{◌≡◌, ◌++◌, drop}
use Rattle.std.specs.List.{flat_map}
use Rattle.latch_text.specs.Text.{row_line}
use Rattle.latch_text.proofs.rows.put_rows.Given as goal

abbrev pub invariant-loop-row : goal.invariant-loop-row
invariant-loop-row l =
    l.out ++ flat_map (row_line l.latches) (drop l.row-index l.rows)
    ≡ l.initial.out ++ flat_map (row_line l.latches) l.rows
