-- Who gets control of a resource when a system's elements leave its list.
use Rattle.std.specs.Prelude.{ℕ, not, cond, List, [], filter, take}
use Rattle.grs_base.specs.Lists.{owns, owners}
use Rattle.grs_base.specs.State.{pick, is_systems, is_of_other}
use Rattle.grs_base.specs.declared.resource.Elem.{Elem}
use Rattle.grs_base.specs.declared.resource.Res.{Res}
use Rattle.grs_base.specs.declared.resource.TaskId.{TaskId}

-- the tasks that own by the list afterwards and didn't by the list before, in the order of the list
abbrev pub newcomers : List Elem → List Elem → List TaskId
newcomers before after = pick (λ e. not (owns before e.task)) (λ e. e.task) (take (owners after) after)

-- The tasks that get control of a resource when the elements of a system's tasks leave its list. They leave only the
-- lists of the whole complex.
abbrev pub freed : ℕ → Res → List Elem → List TaskId
freed n r es = cond (is_systems r) (newcomers es (filter (is_of_other n) es)) []
