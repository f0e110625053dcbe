-- How the tasks of a deck stand at the end of a run.
use Rattle.std.specs.Prelude.{ℕ, List, map}
use Rattle.grs_base.specs.declared.resource.TaskId.{TaskId}
use Rattle.grs_wire.specs.declared.seen.TaskEnd.{TaskEnd}
use Rattle.grs_node.specs.Node.{NodeState}
use Rattle.grs_world.specs.Running.{task_end}

-- each of these tasks with its end at these systems, of which those in the set were removed
abbrev pub ends_at : ℕ → List NodeState → List TaskId → List (TaskId × TaskEnd)
ends_at removed ns ts = map (λ t. (t, task_end removed ns t)) ts
