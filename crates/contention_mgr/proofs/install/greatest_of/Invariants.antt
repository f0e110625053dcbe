use Rattle.std.proofs.Common.{◌≡◌, drop}
use Rattle.contention_mgr.specs.Installs.{ranks_on}
use Rattle.contention_mgr.specs.Loads.{greatest}
use Rattle.contention_mgr.proofs.install.greatest_of.Given as goal

abbrev pub invariant-loop-rec : goal.invariant-loop-rec
invariant-loop-rec l = greatest l.most (ranks_on (drop l.rec-index l.recs)) ≡ greatest 0 (ranks_on l.recs)
