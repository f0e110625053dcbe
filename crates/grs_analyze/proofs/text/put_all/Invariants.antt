use Rattle.std.proofs.Common.{◌≡◌, ◌++◌, drop}
use Rattle.std.specs.List.{flat_map}
use Rattle.grs_analyze.specs.Waits.{blocked_in}
use Rattle.grs_analyze.specs.Text.{row_lines}
use Rattle.grs_analyze.proofs.text.put_all.Given as goal

abbrev pub invariant-loop-row : goal.invariant-loop-row
invariant-loop-row l = record {
  left : l.left ≡ flat_map blocked_in (drop l.row-index l.rows);
  out :
      l.out ++ flat_map (row_lines l.names) (drop l.row-index l.rows)
      ≡ l.initial.out ++ flat_map (row_lines l.names) l.rows;
}
