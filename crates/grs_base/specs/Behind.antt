-- Who gets control when an element leaves a list.
use Rattle.std.specs.Prelude.{ℕ, ◌+◌, ◌&&◌, ◌==◌, nat_le, List, [], ◌∷◌, drop, if◌then◌else◌}
use Rattle.grs_base.specs.Lists.{is_shared, shared_front}
use Rattle.grs_base.specs.declared.resource.Elem.{Elem}
use Rattle.grs_base.specs.declared.resource.TaskId.{TaskId}

-- the tasks of the shared elements with which a list begins
abbrev pub shared_tasks : List Elem → List TaskId
shared_tasks [] = []
shared_tasks (e ∷ es) = if is_shared e.ctl then e.task ∷ shared_tasks es else []

-- the tasks that own
abbrev pub owner_tasks : List Elem → List TaskId
owner_tasks [] = []
owner_tasks (e ∷ es) = if is_shared e.ctl then e.task ∷ shared_tasks es else e.task ∷ []

-- the tasks that get control when the element at this place leaves: those that own what is left, where it alone
-- owned; the shared ones behind it, where it was the first exclusive one behind shared ones; else nobody
abbrev pub tasks_behind : List Elem → ℕ → List TaskId
tasks_behind es p =
    if (p == 0) && nat_le (shared_front es) 1 then owner_tasks (drop 1 es)
    else (if p == shared_front es then shared_tasks (drop (p + 1) es) else [])
