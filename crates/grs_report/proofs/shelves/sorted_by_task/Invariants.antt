use Rattle.std.proofs.Common.{◌≡◌, ℕ, ◌++◌, map, drop}
use Rattle.grs_report.specs.Shelves.{lines_under, told_under}
use Rattle.grs_report.proofs.shelves.sorted_by_task.Given as goal

abbrev pub invariant-loop-line : goal.invariant-loop-line
invariant-loop-line l =
    (n : ℕ)
    → lines_under n l.shelves ++ told_under n (map (λ t. t.now) (drop l.line-index l.told))
    ≡ told_under n (map (λ t. t.now) l.told)
