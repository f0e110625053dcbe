use Rattle.std.proofs.Common.{◌≡◌, ◌++◌, map, drop}
use Rattle.grs_display.specs.Names.{names_in_jobs}
use Rattle.grs_display.proofs.names.all_tasks.Given as goal

abbrev pub invariant-loop-system : goal.invariant-loop-system
invariant-loop-system l =
    l.names ++ map (λ s. names_in_jobs s.jobs) (drop l.system-index l.systems)
    ≡ map (λ s. names_in_jobs s.jobs) l.systems
