use Rattle.std.proofs.Common.{◌≡◌, ◌++◌, map}
use Rattle.system_purge.specs.Gather.{part_rec}
use Rattle.system_purge.proofs.part.add_records.Given as goal

abbrev pub invariant-loop-rec : goal.invariant-loop-rec
invariant-loop-rec l = l.all ++ map (part_rec l.task) l.rec-iterator ≡ l.initial.all ++ map (part_rec l.task) l.records
