use Rattle.std.proofs.Common.{◌≡◌, None, replicate}
use Rattle.star_client.proofs.owes.none_owed.Given as goal

abbrev pub invariant-loop : goal.invariant-loop
invariant-loop l = l.to.items ≡ replicate l.counter None
