use Rattle.std.proofs.Common.{◌≡◌, length}
use Rattle.task_state.specs.Replies.{tell_all}
use Rattle.task_state.proofs.replies.tell_all.Given as goal

abbrev pub invariant-loop-task : goal.invariant-loop-task
invariant-loop-task l = record {
  step : tell_all l.tasks l.res l.rest ≡ tell_all l.fn.tasks l.res l.owners;
  system : l.tasks.system ≡ l.fn.tasks.system;
  count : length l.tasks.tasks ≡ length l.fn.tasks.tasks;
}

abbrev pub decreases-loop-task : goal.decreases-loop-task
decreases-loop-task l = length l.rest
