use Rattle.std.proofs.Common.{◌≡◌, ◌++◌, take}
use Rattle.system_purge.proofs.gather.add_all.Given as goal

abbrev pub invariant-loop-rec : goal.invariant-loop-rec
invariant-loop-rec l = l.recs ≡ l.fn.recs ++ take l.rec-index l.more
