use Rattle.std.proofs.Common.{◌≡◌, length}
use Rattle.contention_mgr.specs.Loads.{greatest}
use Rattle.contention_mgr.proofs.load.greatest_in.Given as goal

abbrev pub invariant-ranks : goal.invariant-ranks
invariant-ranks l = greatest l.most l.rest ≡ greatest l.start l.ranks

abbrev pub decreases-ranks : goal.decreases-ranks
decreases-ranks l = length l.rest
