use Rattle.std.proofs.Common.{◌≡◌, length}
use Rattle.star_client.specs.Client.{are_in_order}
use Rattle.star_client.proofs.answers.are_in_order.Given as goal

abbrev pub invariant-rows : goal.invariant-rows
invariant-rows l = are_in_order l.rest ≡ are_in_order l.rows

abbrev pub decreases-rows : goal.decreases-rows
decreases-rows l = length l.rest
