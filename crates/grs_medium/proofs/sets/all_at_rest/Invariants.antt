use Rattle.std.proofs.Common.{◌≡◌, true}
use Rattle.grs_wire.specs.Masks.{has, all_others}
use Rattle.grs_medium.proofs.sets.all_at_rest.Given as goal

abbrev pub invariant-loop-s : goal.invariant-loop-s
invariant-loop-s l = all_others l.s l.removed (λ s. has l.rest s) ≡ true
