use Rattle.grs_world.proofs.Common.{◌++◌, ◌≡◌, map, take}
use Rattle.grs_world.proofs.summary.add_counts.Given as goal

abbrev pub invariant-loop-unit : goal.invariant-loop-unit
invariant-loop-unit l = l.units ≡ l.fn.units ++ map (λ c. (l.system, c.0, c.1)) (take l.unit-index l.counts)
