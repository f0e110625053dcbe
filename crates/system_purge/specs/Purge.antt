-- What the tasks of a system are told when another one is removed.
use Rattle.std.specs.Prelude.{◌≡◌, ℕ, List, [], ◌∷◌, Some, map}
use Rattle.std.specs.List.{flat_map}
use Rattle.grs_base.specs.declared.resource.Res.{Res}
use Rattle.grs_base.specs.declared.resource.Row.{Row}
use Rattle.grs_base.specs.declared.resource.TaskId.{TaskId}
use Rattle.freed_owners.specs.Freed.{freed}
use Rattle.task_state.specs.Replies.{tell_new, tell_control}
use Rattle.task_state.specs.View.{TasksView}

-- The tasks of a system once they were told control that they get by the removal of another, list by list.
unfoldable pub tell_freed : TasksView → ℕ → List Row → TasksView
tell_freed v n [] = v
tell_freed v n (x ∷ xs) = tell_freed (tell_new v (Some x.res) (freed n x.res x.elems)) n xs

-- The tasks of a system once these were told that they got control, each of its resource, one after the other.
unfoldable pub tell_each : TasksView → List (TaskId × Res) → TasksView
tell_each v [] = v
tell_each v (o ∷ os) = tell_each (tell_control v o.1 o.0) os

-- who gets control of the resource of a row by the removal of system n, each with the resource
abbrev pub freed_on : ℕ → Row → List (TaskId × Res)
freed_on n x = map (λ t. (t, x.res)) (freed n x.res x.elems)

-- Tasks that get control list by list are told one after the other.
abbrev pub FreedAreTold : Type 0
FreedAreTold =
    (v : TasksView) (n : ℕ) (rows : List Row) → tell_freed v n rows ≡ tell_each v (flat_map (freed_on n) rows)
