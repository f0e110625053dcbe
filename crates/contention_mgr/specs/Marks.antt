-- What is kept beside the lists of an entry: each resource that had an element has a number, and each element, by the
-- number of its resource and its task, has its mark. This is how the store of a manager keeps its elements, and nothing
-- that a reader has to believe: what a manager keeps is said in `Manager`, and its calls leave just that.
use Rattle.std.specs.Prelude.{◌≡◌, ℕ, ◌+◌, Bool, true, false, not, ◌&&◌, ◌==◌, List, [], ◌∷◌, map, Option, Some, None}
use Rattle.std.specs.Prelude.{is_some}
use Rattle.std.specs.Map.{lookup}
use Rattle.grs_base.specs.Same.{same_res, same_task}
use Rattle.grs_base.specs.State.{State}
use Rattle.grs_base.specs.declared.resource.Elem.{Elem}
use Rattle.grs_base.specs.declared.resource.Res.{Res}
use Rattle.grs_base.specs.declared.resource.TaskId.{TaskId}
use Rattle.grs_base.specs.declared.decision.Code.TheVariants.{C00, C04, C08, C14, C18, Wait, End}
use Rattle.grs_wire.specs.declared.request.Answer.{Answer}
use Rattle.grs_wire.specs.declared.request.Answer.TheVariants.{Coded, Rows}
use Rattle.contention_mgr.specs.Elements.{holds}
use Rattle.contention_mgr.specs.Manager.{Ranked, Managed}
use Rattle.contention_mgr.specs.declared.marks.Mark.{Mark}
use Rattle.contention_mgr.specs.declared.marks.Spot.{Spot}

-- whether two spots are one
abbrev pub same_spot : Spot → Spot → Bool
same_spot a b = (a.number == b.number) && same_task a.task b.task

-- the mark of a task's element on the resource of a number
abbrev pub mark_at : List (Spot × Mark) → ℕ → TaskId → Option Mark
mark_at ms n t = lookup (same_spot (record { number = n; task = t })) ms

abbrev pub mark_under : (ℕ → TaskId → Option Mark) → Option ℕ → TaskId → Option Mark
mark_under f None t = None
mark_under f (Some n) t = f n t

-- the mark of a task's element on a resource
abbrev pub mark_in : List (Res × ℕ) → List (Spot × Mark) → Res → TaskId → Option Mark
mark_in names ms r t = mark_under (mark_at ms) (lookup (same_res r) names) t

-- whether resources are numbered in their order from k on
abbrev pub numbered_from : ℕ → List (Res × ℕ) → Bool
numbered_from k [] = true
numbered_from k (e ∷ es) = (e.1 == k) && numbered_from (k + 1) es

-- a mark, told or untold
abbrev pub with_told : Bool → Option Mark → Option Mark
with_told untold None = None
with_told untold (Some m) = Some (record { rank = m.rank; untold = untold })

-- what a mark says
abbrev pub rank_in : Option Mark → ℕ
rank_in None = 0
rank_in (Some m) = m.rank

abbrev pub untold_in : Option Mark → Bool
untold_in None = false
untold_in (Some m) = m.untold

-- whether a mark is of a task that isn't to be told
abbrev pub is_told : Mark → Bool
is_told m = not m.untold

-- the elements with what their marks say
abbrev pub ranked : (Res → TaskId → Option Mark) → Res × Elem → Ranked
ranked f h = record { res = h.0; elem = h.1; rank = rank_in (f h.0 h.1.task); untold = untold_in (f h.0 h.1.task) }

abbrev pub ranked_all : (Res → TaskId → Option Mark) → State → List Ranked
ranked_all f s = map (ranked f) s

-- an entry with its next rank, lists and marks
abbrev pub entry_of_parts : ℕ → State → (Res → TaskId → Option Mark) → Managed
entry_of_parts next s f = record { next = next; items = ranked_all f s }

-- whether an answer is the code 00, by which a DEQ takes its element out
abbrev pub is_gone : Answer → Bool
is_gone (Coded C00) = true
is_gone (Coded C04) = false
is_gone (Coded C08) = false
is_gone (Coded C14) = false
is_gone (Coded C18) = false
is_gone (Coded Wait) = false
is_gone (Coded (End n)) = false
is_gone (Rows rows) = false

-- each element has a mark, and each mark an element
abbrev pub AreMarked : (Res → TaskId → Option Mark) → State → Type 0
AreMarked f s = (r : Res) (t : TaskId) → is_some (f r t) ≡ holds s r t
