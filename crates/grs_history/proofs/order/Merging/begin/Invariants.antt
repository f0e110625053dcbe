use Rattle.std.proofs.Common.{◌≡◌, ◌≤◌, ◌++◌, length, drop, map}
use Rattle.grs_base.specs.Limits.{last_number}
use Rattle.grs_history.specs.Merge.{quiet_fronts, without_front}
use Rattle.grs_history.proofs.MergeLaws.{Still}
use Rattle.grs_history.proofs.order.Merging.begin.Given as goal

abbrev pub invariant-loop-number : goal.invariant-loop-number
invariant-loop-number l = record {
  still :
      Still l.fn.self.table.elements l.fn.self.merged (quiet_fronts 0 (map (λ x. x.now) l.logs)) l.self.table.elements
      l.self.merged (quiet_fronts l.number (map (λ x. x.now) (drop l.number l.logs)));
  rests : map (λ r. r.now) l.rests.items ++ map without_front (map (λ x. x.now) (drop l.number l.logs))
      ≡ map without_front (map (λ x. x.now) l.logs);
  few : length l.self.merged.events ≤ last_number;
}
