use Rattle.std.proofs.Common.{◌≤◌, length, drop, map}
use Rattle.grs_base.specs.Limits.{last_number}
use Rattle.grs_history.specs.Merge.{in_order, by_journal}
use Rattle.grs_history.proofs.MergeLaws.{Still}
use Rattle.grs_history.proofs.order.Merging.go_through.Given as goal

abbrev pub invariant-loop-entry : goal.invariant-loop-entry
invariant-loop-entry l = record {
  still :
      Still l.fn.self.table.elements l.fn.self.merged (in_order l.journal (map (λ x. x.now) l.logs))
      l.self.table.elements l.self.merged (by_journal (map (λ r. r.now) l.rests.items) (drop l.entry-index l.journal));
  few : length l.self.merged.events ≤ last_number;
}
