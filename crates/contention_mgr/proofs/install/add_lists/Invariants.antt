use Rattle.std.proofs.Common.{◌≡◌, take}
use Rattle.contention_mgr.specs.Installs.{lists_of}
use Rattle.contention_mgr.proofs.install.add_lists.Given as goal

abbrev pub invariant-loop-rec : goal.invariant-loop-rec
invariant-loop-rec l = l.table.elements ≡ lists_of (take l.rec-index l.recs)
