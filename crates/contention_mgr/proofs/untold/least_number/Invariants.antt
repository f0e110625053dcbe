use Rattle.std.proofs.Common.{◌≡◌, None, drop}
use Rattle.contention_mgr.specs.Untold.{least_from}
use Rattle.contention_mgr.proofs.UntoldLemmas.{IsThere}
use Rattle.contention_mgr.proofs.untold.least_number.Given as goal

abbrev pub invariant-loop-i : goal.invariant-loop-i
invariant-loop-i l = record {
  least : least_from l.home.0 l.names.entries l.best (drop l.i l.marks.entries)
      ≡ least_from l.home.0 l.names.entries None l.marks.entries;
  there : IsThere l.home.0 l.marks.entries l.best;
}
