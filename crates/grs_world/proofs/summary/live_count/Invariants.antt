use Rattle.grs_world.proofs.Common.{◌≡◌, ◌≤◌, live_below}
use Rattle.grs_world.proofs.summary.live_count.Given as goal

abbrev pub invariant-loop-place : goal.invariant-loop-place
invariant-loop-place l = record {
  count : l.count ≡ live_below l.removed l.place;
  few : l.count ≤ l.place;
}
