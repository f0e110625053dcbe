-- The greatest set of tasks each of which depends on a task of the set.
use Rattle.std.specs.Prelude.{◌≡◌, ℕ, zero, suc, Bool, true, List, [], ◌∷◌, ◌++◌, length, filter, if◌then◌else◌}
use Rattle.std.specs.List.{list_any, list_all}
use Rattle.grs_base.specs.Same.{same_task}
use Rattle.grs_base.specs.declared.resource.Elem.{Elem}
use Rattle.grs_base.specs.declared.resource.Row.{Row}
use Rattle.grs_base.specs.declared.resource.TaskId.{TaskId}
use Rattle.grs_analyze.specs.Depends.{depends_on}

-- whether a task is one of these
abbrev pub is_among : List TaskId → TaskId → Bool
is_among ts t = list_any (same_task t) ts

-- with a task behind them, unless it is one of them
abbrev pub with_task : List TaskId → TaskId → List TaskId
with_task ts t = if is_among ts t then ts else ts ++ t ∷ []

-- with the tasks of these elements
abbrev pub with_tasks : List TaskId → List Elem → List TaskId
with_tasks ts [] = ts
with_tasks ts (e ∷ es) = with_tasks (with_task ts e.task) es

-- with the tasks of these rows
abbrev pub with_rows : List TaskId → List Row → List TaskId
with_rows ts [] = ts
with_rows ts (row ∷ rows) = with_rows (with_tasks ts row.elems) rows

-- the tasks of all lists, each once
abbrev pub tasks_of : List Row → List TaskId
tasks_of rows = with_rows [] rows

-- those of these tasks that depend on one of them
abbrev pub supported : List Row → List TaskId → List TaskId
supported rows us = filter (depends_on rows us) us

-- the tasks that are left after so many passes, in each of which those go that depend on none that is left
abbrev pub left_after : List Row → ℕ → List TaskId → List TaskId
left_after rows zero us = us
left_after rows (suc n) us = left_after rows n (supported rows us)

-- the tasks that are left in the end, as each pass takes one away at least, or is the last one
abbrev pub greatest : List Row → List TaskId
greatest rows = left_after rows (length (tasks_of rows)) (tasks_of rows)

-- whether each of these tasks depends on one of them
abbrev pub is_supported : List Row → List TaskId → Bool
is_supported rows us = list_all (depends_on rows us) us

-- A set of tasks each of which depends on one of the set, and which has all tasks of any such set.
pub record IsGreatest (rows : List Row) (us : List TaskId) : Type 0 where
  pub supported : is_supported rows us ≡ true
  pub holds_all : (vs : List TaskId) → is_supported rows vs ≡ true → list_all (is_among us) vs ≡ true

-- What is left in the end is the greatest set.
abbrev pub GreatestIsGreatest : Type 0
GreatestIsGreatest = (rows : List Row) → IsGreatest rows (greatest rows)
