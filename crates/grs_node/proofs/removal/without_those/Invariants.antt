use Rattle.std.proofs.Common.{◌≡◌}
use Rattle.grs_wire.specs.Masks.{without_all}
use Rattle.grs_node.proofs.removal.without_those.Given as goal

abbrev pub invariant-loop-number : goal.invariant-loop-number
invariant-loop-number l = l.left ≡ without_all l.number l.others l.set
