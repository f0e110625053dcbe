-- Lists with numbers for tasks, and sets of tasks as flags at these numbers.
use Rattle.std.specs.Prelude.{◌≡◌, Bool, true, false, not, ◌&&◌, ◌||◌, cond, List, [], ◌∷◌, map, take, slice_get, Some}
use Rattle.std.specs.Prelude.{All}
use Rattle.std.specs.List.{list_any}
use Rattle.grs_base.specs.Same.{same_task}
use Rattle.grs_base.specs.Lists.{owners}
use Rattle.grs_base.specs.declared.resource.Elem.{Elem}
use Rattle.grs_base.specs.declared.resource.Row.{Row}
use Rattle.grs_base.specs.declared.resource.TaskId.{TaskId}
use Rattle.grs_analyze.specs.declared.numbered.Spot.{Spot}
use Rattle.grs_analyze.specs.declared.numbered.Line.{Line}
use Rattle.grs_base.specs.declared.resource.Ctl.{Ctl}
use Rattle.grs_base.specs.declared.resource.Ctl.TheVariants.{E, S}
use Rattle.grs_analyze.specs.declared.numbered.Numbered.{Numbered}
use Rattle.grs_analyze.specs.declared.front.Front.{Front}
use Rattle.grs_analyze.specs.Depends.{excludes, blocks, is_kept_by}
use Rattle.grs_analyze.specs.Greatest.{tasks_of}
use Rattle.grs_analyze.specs.Waits.{waiters}

abbrev pub elems_of : List Spot → List Elem
elems_of ss = map (λ s. s.elem) ss

-- Each number is that of the element's task.
abbrev pub AreNamed : List TaskId → List Spot → Type 0
AreNamed ts ss = All (λ s. slice_get ts s.number ≡ Some s.elem.task) ss

abbrev pub IsNamedLine : List TaskId → Line → Type 0
IsNamedLine ts l = AreNamed ts l.front × AreNamed ts l.waiters

abbrev pub AreNamedLines : List TaskId → List Line → Type 0
AreNamedLines ts ls = All (IsNamedLine ts) ls

-- a line without its numbers, and a row without its resource: the elements that own, and those that wait
abbrev pub plain_line : Line → List Elem × List Elem
plain_line l = (elems_of l.front, elems_of l.waiters)

abbrev pub parted : Row → List Elem × List Elem
parted row = (take (owners row.elems) row.elems, waiters row.elems)

-- whether task t is kept away in one of these lines by a task that passes
abbrev pub waits_among : (TaskId → Bool) → TaskId → List Line → Bool
waits_among p t ls = list_any (λ l. is_kept_by p t (elems_of l.front) (elems_of l.waiters)) ls

-- whether the flag of a task is up
abbrev pub is_flagged : List TaskId → List Bool → TaskId → Bool
is_flagged [] bs t = false
is_flagged (u ∷ us) [] t = false
is_flagged (u ∷ us) (b ∷ bs) t = (same_task t u && b) || is_flagged us bs t

-- the tasks whose flags are up
abbrev pub flagged : List TaskId → List Bool → List TaskId
flagged [] bs = []
flagged (u ∷ us) [] = []
flagged (u ∷ us) (b ∷ bs) = cond b (u ∷ flagged us bs) (flagged us bs)

-- whether no task stands twice among these
abbrev pub is_distinct : List TaskId → Bool
is_distinct [] = true
is_distinct (t ∷ ts) = not (list_any (same_task t) ts) && is_distinct ts

-- what counts of the elements before another
abbrev pub no_front : Front
no_front = record { any = false; exclusive = false }

abbrev pub front_of : (TaskId → Bool) → List Elem → Front
front_of p es = record { any = blocks p E es; exclusive = blocks p S es }

abbrev pub front_with : Front → Ctl → Bool → Front
front_with f c member =
    record { any = f.any || (member && excludes E c); exclusive = f.exclusive || (member && excludes S c) }

abbrev pub is_away : Front → Ctl → Bool
is_away f E = f.any
is_away f S = f.exclusive

-- whether task t has one of these elements, and is kept away by what stands in front, or by a task that passes, whose
-- element stands before it
abbrev pub is_kept_behind : (TaskId → Bool) → TaskId → Front → List Elem → Bool
is_kept_behind p t f [] = false
is_kept_behind p t f (e ∷ es) =
    (same_task t e.task && is_away f e.ctl) || is_kept_behind p t (front_with f e.ctl (p e.task)) es

-- The numbered lists of rows: all tasks are there, each once, and the lists are the same.
pub record IsNumbered (rows : List Row) (n : Numbered) : Type 0 where
  pub tasks : n.tasks ≡ tasks_of rows
  pub lines : map plain_line n.lines ≡ map parted rows
  pub named : AreNamedLines n.tasks n.lines
  pub distinct : is_distinct n.tasks ≡ true
