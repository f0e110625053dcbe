use Rattle.std.proofs.Common.{◌≡◌, ◌++◌, drop}
use Rattle.std.specs.List.{flat_map}
use Rattle.grs_display.specs.Rows.{row_line}
use Rattle.grs_display.proofs.rows.put_rows.Given as goal

abbrev pub invariant-loop-row : goal.invariant-loop-row
invariant-loop-row l =
    l.out ++ flat_map (row_line l.names l.letter) (drop l.row-index l.rows)
    ≡ l.initial.out ++ flat_map (row_line l.names l.letter) l.rows
