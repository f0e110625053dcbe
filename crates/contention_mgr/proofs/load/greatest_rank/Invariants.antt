use Rattle.std.proofs.Common.{◌≡◌, length}
use Rattle.contention_mgr.specs.Loads.{greatest}
use Rattle.lock_structure.specs.RankedRows.{ranks_of}
use Rattle.contention_mgr.proofs.load.greatest_rank.Given as goal

abbrev pub invariant-rows : goal.invariant-rows
invariant-rows l = greatest l.most (ranks_of l.rest) ≡ greatest 0 (ranks_of l.rows)

abbrev pub decreases-rows : goal.decreases-rows
decreases-rows l = length l.rest
