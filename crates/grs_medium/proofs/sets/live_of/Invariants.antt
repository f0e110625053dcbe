use Rattle.std.proofs.Common.{◌≡◌}
use Rattle.grs_wire.specs.Masks.{others}
use Rattle.grs_medium.proofs.sets.live_of.Given as goal

abbrev pub invariant-loop-s : goal.invariant-loop-s
invariant-loop-s l = l.live ≡ others l.s l.removed
