use Rattle.std.proofs.Common.{◌≡◌, true}
use Rattle.system_purge.specs.Gather.{counting_behind, counting, are_clear}
use Rattle.system_purge.proofs.gather.counting.Given as goal

abbrev pub invariant-loop-rec : goal.invariant-loop-rec
invariant-loop-rec l =
    (counting_behind l.recs l.rec-iterator.rest.items ≡ counting l.fn.all) × (are_clear l.recs ≡ true)
