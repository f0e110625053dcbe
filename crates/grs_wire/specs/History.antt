-- A history of requests, and the lists that it leads through.
use Rattle.std.specs.Prelude.{ℕ, zero, suc, Bool, false, ◌==◌, List, [], ◌∷◌, ◌++◌}
use Rattle.grs_base.specs.Same.{same_task}
use Rattle.grs_base.specs.State.{State, is_full, enq_code, deq_reply, remove_state}
use Rattle.grs_base.specs.Looks.{look}
use Rattle.grs_base.specs.declared.look.Filter.{Filter}
use Rattle.grs_base.specs.declared.look.Place.TheVariants.{Slice, Local}
use Rattle.grs_base.specs.declared.resource.SysId.{SysId}
use Rattle.grs_base.specs.declared.resource.TaskId.{TaskId}
use Rattle.grs_base.specs.declared.decision.Code.{Code}
use Rattle.grs_base.specs.declared.decision.Code.TheVariants.{C00}
use Rattle.grs_wire.specs.Wants.{after_want}
use Rattle.grs_wire.specs.declared.history.HistEntry.{HistEntry}
use Rattle.grs_wire.specs.declared.history.HistEntry.TheVariants.{Enq, Deq, Release, Look, Remove}
use Rattle.grs_wire.specs.declared.request.Answer.{Answer}
use Rattle.grs_wire.specs.declared.request.Answer.TheVariants.{Coded, Rows}
use Rattle.grs_wire.specs.declared.request.Want.{Want}
use Rattle.grs_wire.specs.declared.request.Want.TheVariants as wants
use Rattle.grs_wire.specs.declared.request.Fixed.{Fixed}
use Rattle.grs_wire.specs.declared.request.Fixed.TheVariants.{Asked, LocalLook, Purged}

-- whether an entry is of this task; a removal is of none
abbrev pub is_by : TaskId → HistEntry → Bool
is_by t (Enq u r c ret code) = same_task t u
is_by t (Deq u r have code) = same_task t u
is_by t (Release u r) = same_task t u
is_by t (Look u place f rows) = same_task t u
is_by t (Remove by target) = false

-- whether an entry removes this system
abbrev pub removes : SysId → HistEntry → Bool
removes target (Enq t r c ret code) = false
removes target (Deq t r have code) = false
removes target (Release t r) = false
removes target (Look t place f rows) = false
removes target (Remove by removed) = target.0 == removed.0

-- the code that stands in the history; what isn't answered by a code counts as 00
abbrev pub code_of : HistEntry → Code
code_of (Enq t r c ret code) = code
code_of (Deq t r have code) = code
code_of (Release t r) = C00
code_of (Look t place f rows) = C00
code_of (Remove by target) = C00

-- the reply that stands in the history
abbrev pub answer_of : HistEntry → Answer
answer_of (Enq t r c ret code) = Coded code
answer_of (Deq t r have code) = Coded code
answer_of (Release t r) = Coded C00
answer_of (Look t place f rows) = Rows rows
answer_of (Remove by target) = Coded C00

-- the reply that the lists give: an ENQ is full where its task has as many elements as the limit allows
abbrev pub reply_of : ℕ → State → HistEntry → Answer
reply_of limit s (Enq t r c ret code) = Coded (enq_code s r t c ret (is_full limit s t))
reply_of limit s (Deq t r have code) = Coded (deq_reply s r t have)
reply_of limit s (Release t r) = Coded C00
reply_of limit s (Look t place f rows) = Rows (look s place f)
reply_of limit s (Remove by target) = Coded C00

-- the lists after an entry: a look changes nothing, and a removal takes its target's elements out of the
-- lists of Systems resources
abbrev pub step : ℕ → State → HistEntry → State
step limit s (Enq t r c ret code) = after_want s t (wants.Enq r c ret (is_full limit s t))
step limit s (Deq t r have code) = after_want s t (wants.Deq r have)
step limit s (Release t r) = after_want s t (wants.Release r)
step limit s (Look t place f rows) = s
step limit s (Remove by target) = remove_state s target.0

-- the lists after a history that begins with these lists
abbrev pub replay_from : ℕ → State → List HistEntry → State
replay_from limit s [] = s
replay_from limit s (h ∷ hs) = replay_from limit (step limit s h) hs

-- the lists after a whole history
abbrev pub replay : ℕ → List HistEntry → State
replay limit hs = replay_from limit [] hs

-- looks at so many slices from this one on, an entry for each slice
abbrev pub look_entries : State → TaskId → ℕ → ℕ → Filter → List HistEntry
look_entries s t first zero f = []
look_entries s t first (suc count) f =
    Look t (Slice first) f (look s (Slice first) f) ∷ look_entries s t (suc first) count f

-- a request as entries, with the replies that these lists give
abbrev pub entries_for : State → TaskId → Want → List HistEntry
entries_for s t (wants.Enq r c ret full) = Enq t r c ret (enq_code s r t c ret full) ∷ []
entries_for s t (wants.Deq r have) = Deq t r have (deq_reply s r t have) ∷ []
entries_for s t (wants.Release r) = Release t r ∷ []
entries_for s t (wants.Look first count f) = look_entries s t first count f

-- what a system's event fixed, as entries
abbrev pub fixed_entries : State → SysId → Fixed → List HistEntry
fixed_entries s n (Asked q) = entries_for s q.task q.want
fixed_entries s n (LocalLook t f) = Look t (Local t.system) f (look s (Local t.system) f) ∷ []
fixed_entries s n (Purged target) = Remove n target ∷ []

-- the lists after what was fixed
abbrev pub after_fixed : State → Fixed → State
after_fixed s (Asked q) = after_want s q.task q.want
after_fixed s (LocalLook t f) = s
after_fixed s (Purged target) = remove_state s target.0

-- what was fixed, with the replies that the lists give at their places
abbrev pub answered_from : State → List (SysId × Fixed) → List HistEntry
answered_from s [] = []
answered_from s (x ∷ xs) = fixed_entries s x.0 x.1 ++ answered_from (after_fixed s x.1) xs

abbrev pub answered : List (SysId × Fixed) → List HistEntry
answered xs = answered_from [] xs
