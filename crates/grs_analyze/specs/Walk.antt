-- The walk along the tasks that depend on one another, and the cycle that is reported.
use Rattle.std.specs.Prelude.{◌≡◌, ◌⊎◌, ◌==◌, ℕ, zero, suc, Bool, true, false, ◌&&◌, ◌||◌, nat_lt, List, [], ◌∷◌, ◌++◌}
use Rattle.std.specs.Prelude.{length, filter, Option, Some, None, if◌then◌else◌}
use Rattle.grs_base.specs.Same.{same_task}
use Rattle.grs_base.specs.declared.resource.Row.{Row}
use Rattle.grs_base.specs.declared.resource.TaskId.{TaskId}
use Rattle.grs_analyze.specs.Depends.{depends}
use Rattle.grs_analyze.specs.Greatest.{is_among, tasks_of, greatest}

-- whether a task stands before another by its system, its job and itself
abbrev pub is_less : TaskId → TaskId → Bool
is_less t u =
    nat_lt t.system.0 u.system.0
    || ((t.system.0 == u.system.0) && (nat_lt t.job u.job || ((t.job == u.job) && nat_lt t.task u.task)))

-- the lesser of a task, where there is one, and another
abbrev pub lesser : Option TaskId → TaskId → TaskId
lesser None t = t
lesser (Some u) t = if is_less t u then t else u

-- the least of a task, where there is one, and these
abbrev pub least_with : Option TaskId → List TaskId → Option TaskId
least_with o [] = o
least_with o (t ∷ ts) = least_with (Some (lesser o t)) ts

-- the least of these tasks
abbrev pub least : List TaskId → Option TaskId
least ts = least_with None ts

-- the least of us on which t depends
abbrev pub next_of : List Row → List TaskId → TaskId → Option TaskId
next_of rows us t = least (filter (depends rows t) us)

-- these tasks from this one on
abbrev pub from_task : TaskId → List TaskId → List TaskId
from_task t [] = []
from_task t (u ∷ us) = if same_task t u then u ∷ us else from_task t us

-- the cycle that a walk comes to that has come along `past`, stands now at this task and makes so many steps more at
-- most: where it was at this task before, what it has come along from there on
abbrev pub walk : List Row → List TaskId → ℕ → List TaskId → Option TaskId → List TaskId
walk rows us n past None = []
walk rows us zero past (Some t) = []
walk rows us (suc n) past (Some t) =
    if is_among past t then from_task t past else walk rows us n (past ++ t ∷ []) (next_of rows us t)

-- The cycle that is reported: the walk begins at the least task of the greatest set.
abbrev pub reported_cycle : List Row → List TaskId
reported_cycle rows = walk rows (greatest rows) (suc (length (tasks_of rows))) [] (least (greatest rows))

-- whether each of these tasks depends on the next, and the last on this one
abbrev pub leads_to : List Row → TaskId → List TaskId → TaskId → Bool
leads_to rows t [] back = depends rows t back
leads_to rows t (u ∷ us) back = depends rows t u && leads_to rows u us back

-- whether tasks are a cycle: each depends on the next, and the last on the first
abbrev pub is_cycle : List Row → List TaskId → Bool
is_cycle rows [] = false
is_cycle rows (t ∷ ts) = leads_to rows t ts t

-- What is reported is a cycle, or nothing; and nothing only where there is no cycle.
pub record CyclesAreReported (rows : List Row) : Type 0 where
  pub some : (reported_cycle rows ≡ []) ⊎ (is_cycle rows (reported_cycle rows) ≡ true)
  pub none : reported_cycle rows ≡ [] → (ts : List TaskId) → is_cycle rows ts ≡ false

-- So it is of all lists.
abbrev pub AllCyclesAreReported : Type 0
AllCyclesAreReported = (rows : List Row) → CyclesAreReported rows
