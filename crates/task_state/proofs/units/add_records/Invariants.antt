use Rattle.std.proofs.Common.{◌≡◌}
use Rattle.task_state.specs.Units.{reserved_in, counting_all}
use Rattle.task_state.proofs.units.add_records.Given as goal

abbrev pub invariant-loop-rec : goal.invariant-loop-rec
invariant-loop-rec l =
    counting_all l.counts.items (reserved_in l.rec-iterator) ≡ counting_all l.fn.counts.items (reserved_in l.records)
