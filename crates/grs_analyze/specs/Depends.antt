-- Which task depends on which, by lists: rows, in none of which a task stands twice.
use Rattle.std.specs.Prelude.{◌≡◌, ℕ, Bool, true, false, not, ◌&&◌, ◌||◌, List, [], ◌∷◌, ◌++◌, take, drop, All}
use Rattle.std.specs.List.{list_any}
use Rattle.grs_base.specs.Same.{same_task}
use Rattle.grs_base.specs.Lists.{is_shared, owners, is_apart}
use Rattle.grs_base.specs.Rows.{rows_of}
use Rattle.grs_wire.specs.History.{replay}
use Rattle.grs_wire.specs.declared.history.HistEntry.{HistEntry}
use Rattle.grs_base.specs.declared.resource.Ctl.{Ctl}
use Rattle.grs_base.specs.declared.resource.Elem.{Elem}
use Rattle.grs_base.specs.declared.resource.Row.{Row}
use Rattle.grs_base.specs.declared.resource.TaskId.{TaskId}

-- In no list a task stands twice.
abbrev pub AreApart : List Row → Type 0
AreApart rows = All (λ row. is_apart row.elems ≡ true) rows

-- So it is of the lists that a history leaves.
abbrev pub ListsAreApart : Type 0
ListsAreApart = (limit : ℕ) (hist : List HistEntry) → AreApart (rows_of (replay limit hist))

-- whether two can't have control side by side: one of them, or both, asked for it exclusive
abbrev pub excludes : Ctl → Ctl → Bool
excludes c d = not (is_shared c && is_shared d)

-- whether one of these elements is of a task that passes, and keeps control of this kind away
abbrev pub blocks : (TaskId → Bool) → Ctl → List Elem → Bool
blocks p c [] = false
blocks p c (e ∷ es) = (p e.task && excludes c e.ctl) || blocks p c es

-- whether task t has one of the elements es, and is kept away by a task that passes, whose element stands before it,
-- in front or in es
abbrev pub is_kept_by : (TaskId → Bool) → TaskId → List Elem → List Elem → Bool
is_kept_by p t front [] = false
is_kept_by p t front (e ∷ es) = (same_task t e.task && blocks p e.ctl front) || is_kept_by p t (front ++ e ∷ []) es

-- whether task t waits in a list, and an element before its own is of a task that passes and keeps it away
abbrev pub waits_for : (TaskId → Bool) → TaskId → List Elem → Bool
waits_for p t es = is_kept_by p t (take (owners es) es) (drop (owners es) es)

-- whether it does so in one of the lists
abbrev pub waits_somewhere : (TaskId → Bool) → TaskId → List Row → Bool
waits_somewhere p t rows = list_any (λ row. waits_for p t row.elems) rows

-- Whether task t depends on task u, another one: t's element waits in a list, u's stands before it there, and one of
-- both at least is exclusive.
abbrev pub depends : List Row → TaskId → TaskId → Bool
depends rows t u = not (same_task t u) && waits_somewhere (same_task u) t rows

-- whether it depends on one of these
abbrev pub depends_on : List Row → List TaskId → TaskId → Bool
depends_on rows us t = list_any (depends rows t) us
