use Rattle.std.proofs.Common.{◌≡◌, length}
use Rattle.grs_base.specs.ResOrder.{by_numbers}
use Rattle.grs_base.proofs.order.order_of_bytes.Given as goal

abbrev pub invariant-bytes : goal.invariant-bytes
invariant-bytes l = by_numbers l.first l.second ≡ by_numbers l.fn.a l.fn.b

abbrev pub decreases-bytes : goal.decreases-bytes
decreases-bytes l = length l.first
