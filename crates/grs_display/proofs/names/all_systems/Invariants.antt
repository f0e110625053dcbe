use Rattle.std.proofs.Common.{◌≡◌, ◌++◌, map, drop}
use Rattle.grs_display.proofs.names.all_systems.Given as goal

abbrev pub invariant-loop-system : goal.invariant-loop-system
invariant-loop-system l =
    l.names ++ map (λ s. s.name) (drop l.system-index l.systems) ≡ map (λ s. s.name) l.systems
