use Rattle.std.proofs.Common.{◌≡◌}
use Rattle.grs_wire.specs.Masks.{without_others}
use Rattle.grs_medium.proofs.sets.woken.Given as goal

abbrev pub invariant-loop-s : goal.invariant-loop-s
invariant-loop-s l = l.flags ≡ without_others l.s l.removed l.rest
