-- Whether a run is done with its tasks.
use Rattle.std.specs.Prelude.{Bool, true, false, List}
use Rattle.std.specs.List.{list_all}
use Rattle.grs_base.specs.declared.resource.TaskId.{TaskId}
use Rattle.grs_wire.specs.declared.seen.TaskEnd.{TaskEnd}
use Rattle.grs_wire.specs.declared.seen.TaskEnd.TheVariants.{Ended, Removed, Waits, Open}

-- whether a task has ended, or was removed with its system
abbrev pub is_done : TaskEnd → Bool
is_done Ended = true
is_done Removed = true
is_done Waits = false
is_done Open = false

-- whether every task is done
abbrev pub all_ended : List (TaskId × TaskEnd) → Bool
all_ended ended = list_all (λ e. is_done e.1) ended
