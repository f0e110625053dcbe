use Rattle.std.proofs.Common.{◌≡◌, ◌≤◌, ◌+◌, drop, length}
use Rattle.std.specs.Prelude.{filter}
use Rattle.grs_world.specs.Running.{task_end}
use Rattle.grs_top.specs.Generated.{is_ended}
use Rattle.grs_top.proofs.generate.ended_of.Given as goal

abbrev pub invariant-loop-task : goal.invariant-loop-task
invariant-loop-task l = record {
  few : l.count ≤ l.task-index;
  left :
      l.count
      + length (filter (λ t. is_ended (task_end l.world.world.medium.removed l.world.world.nodes t))
      (drop l.task-index l.tasks))
      ≡ length (filter (λ t. is_ended (task_end l.world.world.medium.removed l.world.world.nodes t)) l.tasks);
}
