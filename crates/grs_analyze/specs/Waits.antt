-- The elements that wait, each with the first one that keeps it away; and the whole analysis.
use Rattle.std.specs.Prelude.{◌≡◌, List, [], ◌∷◌, ◌++◌, take, drop, map, Option, Some, None, if◌then◌else◌}
use Rattle.std.specs.List.{flat_map}
use Rattle.grs_base.specs.Lists.{owners}
use Rattle.grs_base.specs.declared.resource.Ctl.{Ctl}
use Rattle.grs_base.specs.declared.resource.Elem.{Elem}
use Rattle.grs_base.specs.declared.resource.Res.{Res}
use Rattle.grs_base.specs.declared.resource.Row.{Row}
use Rattle.grs_base.specs.declared.resource.TaskId.{TaskId}
use Rattle.grs_analyze.specs.declared.analysis.Analysis.{Analysis}
use Rattle.grs_analyze.specs.declared.analysis.Blocked.{Blocked}
use Rattle.grs_analyze.specs.Depends.{excludes}
use Rattle.grs_analyze.specs.Walk.{reported_cycle}

-- the task of the first of these elements that keeps control of this kind away
abbrev pub first_blocker : Ctl → List Elem → Option TaskId
first_blocker c [] = None
first_blocker c (e ∷ es) = if excludes c e.ctl then Some e.task else first_blocker c es

-- an element that waits, with the task that keeps it away, if there is one
abbrev pub blocked : Res → TaskId → Option TaskId → List Blocked
blocked r t None = []
blocked r t (Some u) = record { res = r; task = t; by = u } ∷ []

-- these elements, each with the first one before it that keeps it away, in front or among them
abbrev pub blocked_behind : Res → List Elem → List Elem → List Blocked
blocked_behind r front [] = []
blocked_behind r front (e ∷ es) =
    blocked r e.task (first_blocker e.ctl front) ++ blocked_behind r (front ++ e ∷ []) es

-- the waiting elements of a list
abbrev pub waiters : List Elem → List Elem
waiters es = drop (owners es) es

-- these, each with the first one that keeps it away
abbrev pub blocked_in : Row → List Blocked
blocked_in row = blocked_behind row.res (take (owners row.elems) row.elems) (waiters row.elems)

-- the analysis of lists
abbrev pub analysis : List Row → Analysis
analysis rows = record { waits = flat_map blocked_in rows; cycle = reported_cycle rows }

-- Whoever waits is kept away by somebody.
abbrev pub EachWaiterIsTold : Type 0
EachWaiterIsTold = (row : Row) → map (λ b. b.task) (blocked_in row) ≡ map (λ e. e.task) (waiters row.elems)
