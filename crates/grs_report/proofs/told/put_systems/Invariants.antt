use Rattle.std.proofs.Common.{◌≡◌, ◌++◌, drop}
use Rattle.grs_report.specs.Told.{systems_text}
use Rattle.grs_report.proofs.told.put_systems.Given as goal

abbrev pub invariant-loop-place : goal.invariant-loop-place
invariant-loop-place l =
    l.out ++ systems_text l.names l.told l.ended l.place (drop l.place l.systems)
    ≡ l.initial.out ++ systems_text l.names l.told l.ended 0 l.systems
