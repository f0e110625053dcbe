use Rattle.std.proofs.Common.{◌≡◌, ℕ, ◌++◌, drop}
use Rattle.grs_report.specs.Told.{told_by}
use Rattle.grs_report.specs.Shelves.{lines_under}
use Rattle.grs_report.proofs.shelves.sorted_by_system.Given as goal

abbrev pub invariant-loop-line : goal.invariant-loop-line
invariant-loop-line l =
    (n : ℕ) → lines_under n l.shelves ++ told_by n (drop l.line-index l.told) ≡ told_by n l.told
