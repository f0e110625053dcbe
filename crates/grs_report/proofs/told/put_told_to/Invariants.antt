use Rattle.std.proofs.Common.{◌≡◌, ◌++◌, map, drop}
use Rattle.grs_report.specs.Told.{told_lines, told_to}
use Rattle.grs_report.proofs.told.put_told_to.Given as goal

abbrev pub invariant-loop-line : goal.invariant-loop-line
invariant-loop-line l =
    l.out ++ told_lines l.names (told_to l.task (map (λ t. t.now) (drop l.line-index l.told)))
    ≡ l.initial.out ++ told_lines l.names (told_to l.task (map (λ t. t.now) l.told))
