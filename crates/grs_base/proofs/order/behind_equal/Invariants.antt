use Rattle.std.proofs.Common.{◌≡◌, length}
use Rattle.grs_base.specs.ResOrder.{by_numbers}
use Rattle.grs_base.proofs.order.behind_equal.Given as goal

abbrev pub invariant-eights : goal.invariant-eights
invariant-eights l = by_numbers l.first l.second ≡ by_numbers l.fn.a l.fn.b

abbrev pub decreases-eights : goal.decreases-eights
decreases-eights l = length l.first
