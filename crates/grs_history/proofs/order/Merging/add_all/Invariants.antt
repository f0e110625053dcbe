use Rattle.std.proofs.Common.{◌≤◌, length, drop}
use Rattle.grs_base.specs.Limits.{last_number}
use Rattle.grs_history.specs.Merge.{steps_by}
use Rattle.grs_history.proofs.MergeLaws.{Still}
use Rattle.grs_history.proofs.order.Merging.add_all.Given as goal

abbrev pub invariant-loop-step : goal.invariant-loop-step
invariant-loop-step l = record {
  still :
      Still l.fn.self.table.elements l.fn.self.merged (steps_by l.system l.steps) l.self.table.elements l.self.merged
      (steps_by l.system (drop l.step-index l.steps));
  few : length l.self.merged.events ≤ last_number;
}
