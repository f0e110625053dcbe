-- The items of a run: each thing that was fixed, in order, with who fixed it and the history lines that it makes.
use Rattle.std.specs.Prelude.{◌≡◌, ℕ, Bool, true, false, not, ◌&&◌, ◌||◌, ◌==◌, filter, List, [], ◌∷◌, ◌++◌}
use Rattle.grs_base.specs.Same.{same_res, same_task}
use Rattle.grs_base.specs.State.{State, is_full, is_systems}
use Rattle.grs_base.specs.declared.resource.Res.{Res}
use Rattle.grs_base.specs.declared.resource.Ret.{Ret}
use Rattle.grs_base.specs.declared.resource.Ret.TheVariants.{RetNone, RetUse, RetHave, RetTest, RetChng, RetEcb}
use Rattle.grs_base.specs.declared.resource.Row.{Row}
use Rattle.grs_base.specs.declared.resource.SysId.{SysId}
use Rattle.grs_base.specs.declared.resource.TaskId.{TaskId}
use Rattle.grs_base.specs.declared.decision.Code.TheVariants.{C00}
use Rattle.grs_wire.specs.History.{after_fixed, fixed_entries}
use Rattle.grs_wire.specs.declared.history.HistEntry.{HistEntry}
use Rattle.grs_wire.specs.declared.history.HistEntry.TheVariants.{Enq, Deq, Release, Look, Remove}
use Rattle.grs_wire.specs.declared.request.Answer.{Answer}
use Rattle.grs_wire.specs.declared.request.Answer.TheVariants.{Coded, Rows}
use Rattle.grs_wire.specs.declared.request.Fixed.{Fixed}
use Rattle.grs_wire.specs.declared.request.Fixed.TheVariants.{Asked, LocalLook, Purged}
use Rattle.grs_wire.specs.declared.request.Want.{Want}
use Rattle.grs_wire.specs.declared.request.Want.TheVariants as wants
use Rattle.task_state.specs.Replies.{is_granted, is_queued, gives_up}

-- An item: the system whose event fixed it, what was fixed, and the entries that it makes (one; one a slice, of
-- looks; the removal).
pub record RunItem : Type 0 where
  pub by : SysId
  pub fixed : Fixed
  pub entries : List HistEntry

-- whether what was fixed is of this task; a removal is of none
abbrev pub is_of : TaskId → Fixed → Bool
is_of t (Asked q) = same_task t q.task
is_of t (LocalLook u f) = same_task t u
is_of t (Purged target) = false

-- whether it removes this task's system
abbrev pub removes_system_of : TaskId → Fixed → Bool
removes_system_of t (Asked q) = false
removes_system_of t (LocalLook u f) = false
removes_system_of t (Purged target) = target.0 == t.system.0

-- whether it asks to give this resource up
abbrev pub gives_back : Res → Fixed → Bool
gives_back r (Asked q) = gives_up r q.want
gives_back r (LocalLook u f) = false
gives_back r (Purged target) = false

-- whether it goes with the message: a request for a resource of the whole complex, looks at slices, a removal
abbrev pub wants_round : Want → Bool
wants_round (wants.Enq r c ret full) = is_systems r
wants_round (wants.Deq r have) = is_systems r
wants_round (wants.Release r) = is_systems r
wants_round (wants.Look first count f) = true

abbrev pub goes_round : Fixed → Bool
goes_round (Asked q) = wants_round q.want
goes_round (LocalLook u f) = false
goes_round (Purged target) = true

-- the items that went with the message, in order
abbrev pub rounds : List RunItem → List RunItem
rounds T = filter (λ x. goes_round x.fixed) T

-- the items of a task, in order
abbrev pub mine : TaskId → List RunItem → List RunItem
mine t T = filter (λ x. is_of t x.fixed) T

-- ---- what an entry tells of its task, by its reply alone

-- whether it took this resource from its task
abbrev pub took : Res → HistEntry → Bool
took r (Enq u q c ret code) = false
took r (Deq u q have code) = same_res r q && is_granted code
took r (Release u q) = same_res r q
took r (Look u place f rows) = false
took r (Remove by target) = false

-- whether it queued an element for this resource that owns it
abbrev pub gave : Res → HistEntry → Bool
gave r (Enq u q c ret code) = same_res r q && (is_granted code && is_queued ret code)
gave r (Deq u q have code) = false
gave r (Release u q) = false
gave r (Look u place f rows) = false
gave r (Remove by target) = false

-- what its task owns after an entry, where it owned this before: looks leave that; and after several
abbrev pub owns_told : HistEntry → (Res → Bool) → Res → Bool
owns_told (Look u place filter rows) f = f
owns_told h f = λ r. (f r && not (took r h)) || gave r h

abbrev pub owns_after : (Res → Bool) → List HistEntry → Res → Bool
owns_after f [] r = f r
owns_after f (h ∷ hs) r = owns_after (owns_told h f) hs r

-- whether an ENQ with this RET that was answered 00 has control: TEST only asks
abbrev pub has_control : Ret → Bool
has_control RetNone = true
has_control RetUse = true
has_control RetHave = true
has_control RetEcb = true
has_control RetChng = true
has_control RetTest = false

-- whether its reply tells control of this resource
abbrev pub tells : Res → HistEntry → Bool
tells r (Enq u q c ret code) = same_res r q && (is_granted code && has_control ret)
tells r (Deq u q have code) = false
tells r (Release u q) = false
tells r (Look u place f rows) = false
tells r (Remove by target) = false

-- what the looks among these entries show, one after the other
abbrev pub rows_in : List HistEntry → List Row
rows_in [] = []
rows_in (Enq u q c ret code ∷ hs) = rows_in hs
rows_in (Deq u q have code ∷ hs) = rows_in hs
rows_in (Release u q ∷ hs) = rows_in hs
rows_in (Look u place f rows ∷ hs) = rows ++ rows_in hs
rows_in (Remove by target ∷ hs) = rows_in hs

-- the answer that the entries of one item hold: a code, or the rows of its looks
abbrev pub reply_in : List HistEntry → Answer
reply_in [] = Rows []
reply_in (Enq u q c ret code ∷ hs) = Coded code
reply_in (Deq u q have code ∷ hs) = Coded code
reply_in (Release u q ∷ hs) = Coded C00
reply_in (Look u place f rows ∷ hs) = Rows (rows ++ rows_in hs)
reply_in (Remove by target ∷ hs) = Coded C00

-- ---- the lists and the history

-- the plain lists after items that begin with these lists, and after all items
abbrev pub lists_from : State → List RunItem → State
lists_from s [] = s
lists_from s (x ∷ xs) = lists_from (after_fixed s x.fixed) xs

abbrev pub lists : List RunItem → State
lists T = lists_from [] T

-- behind these items, this one has the entries that the plain lists give there; and so has each of these
abbrev pub Made : List RunItem → RunItem → Type 0
Made T x = x.entries ≡ fixed_entries (lists T) x.by x.fixed

abbrev pub AllMade : List RunItem → List RunItem → Type 0
AllMade T [] = Unit {0}
AllMade T (x ∷ xs) = Made T x × AllMade (T ++ x ∷ []) xs

-- the history that items make: their entries, one after the other
abbrev pub history : List RunItem → List HistEntry
history [] = []
history (x ∷ xs) = x.entries ++ history xs

-- the items of what was fixed, in order
abbrev pub items_from : State → List (SysId × Fixed) → List RunItem
items_from s [] = []
items_from s (x ∷ xs) =
    record { by = x.0; fixed = x.1; entries = fixed_entries s x.0 x.1 } ∷ items_from (after_fixed s x.1) xs

abbrev pub items : List (SysId × Fixed) → List RunItem
items xs = items_from [] xs

-- an ENQ says that its task has as many elements as it may exactly where the task has; and so does each of these
-- items, behind those
abbrev pub CountsIn : ℕ → State → TaskId → Want → Type 0
CountsIn limit s t (wants.Enq r c ret full) = full ≡ is_full limit s t
CountsIn limit s t (wants.Deq r have) = Unit {0}
CountsIn limit s t (wants.Release r) = Unit {0}
CountsIn limit s t (wants.Look first count f) = Unit {0}

abbrev pub Counts : ℕ → State → Fixed → Type 0
Counts limit s (Asked q) = CountsIn limit s q.task q.want
Counts limit s (LocalLook u f) = Unit {0}
Counts limit s (Purged target) = Unit {0}

abbrev pub AllCount : ℕ → List RunItem → List RunItem → Type 0
AllCount limit T [] = Unit {0}
AllCount limit T (x ∷ xs) = Counts limit (lists T) x.fixed × AllCount limit (T ++ x ∷ []) xs
