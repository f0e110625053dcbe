use Rattle.std.proofs.Common.{◌≡◌, ◌++◌, drop, map}
use Rattle.grs_analyze.specs.Greatest.{with_rows}
use Rattle.grs_analyze.specs.Numbered.{plain_line, parted, AreNamedLines}
use Rattle.grs_analyze.proofs.numbered.lines.Given as goal

abbrev pub invariant-loop-row : goal.invariant-loop-row
invariant-loop-row l = record {
  tasks : with_rows l.tasks.keys (drop l.row-index l.rows) ≡ with_rows l.initial.tasks.keys l.rows;
  lines : map plain_line l.lines ++ map parted (drop l.row-index l.rows) ≡ map parted l.rows;
  named : AreNamedLines l.tasks.keys l.lines;
}
