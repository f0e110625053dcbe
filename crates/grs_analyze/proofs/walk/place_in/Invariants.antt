use Rattle.std.proofs.Common.{◌≡◌, drop}
use Rattle.grs_analyze.specs.Greatest.{is_among}
use Rattle.grs_analyze.specs.Walk.{from_task}
use Rattle.grs_analyze.proofs.walk.place_in.Given as goal

abbrev pub invariant-loop-place : goal.invariant-loop-place
invariant-loop-place l = record {
  among : is_among (drop l.place l.past) l.task ≡ is_among l.past l.task;
  from : from_task l.task (drop l.place l.past) ≡ from_task l.task l.past;
}
