use Rattle.grs_world.proofs.Common.{◌≡◌, drop}
use Rattle.grs_world.specs.Running.{none_busy, busy_at}
use Rattle.grs_world.proofs.summary.none_busy.Given as goal

abbrev pub invariant-loop-place : goal.invariant-loop-place
invariant-loop-place l =
    none_busy l.removed l.place (busy_at l.removed (drop l.place l.nodes))
    ≡ none_busy l.removed 0 (busy_at l.removed l.nodes)
