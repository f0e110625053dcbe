use Rattle.std.proofs.Common.{◌≡◌, ◌≤◌, ◌+◌, ◌++◌, drop, length}
use Rattle.std.specs.Prelude.{vec_len, vec_capacity}
use Rattle.grs_latch.specs.Latches.{grants_at}
use Rattle.grs_latch.proofs.queue.grants_within.Given as goal

abbrev pub invariant-loop-task : goal.invariant-loop-task
invariant-loop-task l = record {
  items : l.grants.items ++ grants_at l.set l.latch (drop l.task-index l.tasks) ≡ grants_at l.set l.latch l.tasks;
  room : vec_len l.grants + length (drop l.task-index l.tasks) ≤ vec_capacity l.grants;
}
