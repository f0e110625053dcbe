-- The circles of the tasks.
use Rattle.std.specs.Prelude.{Bool, List, is_some, unwrap_or}
use Rattle.std.specs.Map.{lookup}
use Rattle.grs_base.specs.Same.{same_task}
use Rattle.grs_base.specs.declared.resource.TaskId.{TaskId}
use Rattle.qel_store.specs.declared.rings.Ring.{Ring}
use Rattle.qel_store.specs.Rings.{no_ring}

-- tasks with their circles
abbrev pub TaskRings : Type 0
TaskRings = List (TaskId × Ring)

-- whether a task has a circle, which may have no elements any more
abbrev pub is_known : TaskRings → TaskId → Bool
is_known rs t = is_some (lookup (same_task t) rs)

-- the circle of a task; one that isn't there has no elements
abbrev pub ring_of : TaskRings → TaskId → Ring
ring_of rs t = unwrap_or (lookup (same_task t) rs) no_ring
