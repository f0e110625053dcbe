use Rattle.std.proofs.Common.{◌≡◌, ◌++◌, drop}
use Rattle.std.specs.List.{flat_map}
use Rattle.grs_report.specs.State.{unit_line}
use Rattle.grs_report.proofs.state.put_unit_lines.Given as goal

abbrev pub invariant-loop-unit : goal.invariant-loop-unit
invariant-loop-unit l =
    l.out ++ flat_map (unit_line l.names) (drop l.unit-index l.units)
    ≡ l.initial.out ++ flat_map (unit_line l.names) l.units
