-- What one request is answered by the lists, and the lists after it.
use Rattle.std.specs.Prelude.{ℕ, zero, suc, Bool, true, not, ◌&&◌, List, [], ◌++◌, take, Option, Some, None}
use Rattle.grs_base.specs.Same.{same_task}
use Rattle.grs_base.specs.Lists.{owns, owners}
use Rattle.grs_base.specs.State.{pick, State, is_systems, list_of, enq_code, enq_state, deq_reply, deq_state}
use Rattle.grs_base.specs.State.{release_state}
use Rattle.grs_base.specs.Looks.{look}
use Rattle.grs_base.specs.declared.look.Filter.{Filter}
use Rattle.grs_base.specs.declared.look.Place.TheVariants.{Slice}
use Rattle.grs_base.specs.declared.resource.Elem.{Elem}
use Rattle.grs_base.specs.declared.resource.Res.{Res}
use Rattle.grs_base.specs.declared.resource.Row.{Row}
use Rattle.grs_base.specs.declared.resource.TaskId.{TaskId}
use Rattle.grs_base.specs.declared.decision.Code.TheVariants.{C00}
use Rattle.grs_wire.specs.declared.request.Answer.{Answer}
use Rattle.grs_wire.specs.declared.request.Answer.TheVariants.{Coded, Rows}
use Rattle.grs_wire.specs.declared.request.Want.{Want}
use Rattle.grs_wire.specs.declared.request.Want.TheVariants.{Enq, Deq, Release, Look}

-- what looks at so many slices from this one on show, slice after slice
abbrev pub looks : State → ℕ → ℕ → Filter → List Row
looks s first zero f = []
looks s first (suc count) f = look s (Slice first) f ++ looks s (suc first) count f

-- what the lists answer a task that wants this; a RELEASE is always answered 00
abbrev pub answer_to : State → TaskId → Want → Answer
answer_to s t (Enq r c ret full) = Coded (enq_code s r t c ret full)
answer_to s t (Deq r have) = Coded (deq_reply s r t have)
answer_to s t (Release r) = Coded C00
answer_to s t (Look first count f) = Rows (looks s first count f)

-- the lists afterwards; looks change nothing
abbrev pub after_want : State → TaskId → Want → State
after_want s t (Enq r c ret full) = enq_state s r t c ret full
after_want s t (Deq r have) = deq_state s r t
after_want s t (Release r) = release_state s r t
after_want s t (Look first count f) = s

-- the resource that is spoken of, if one is
abbrev pub res_wanted : Want → Option Res
res_wanted (Enq r c ret full) = Some r
res_wanted (Deq r have) = Some r
res_wanted (Release r) = Some r
res_wanted (Look first count f) = None

-- whether a request is for the whole complex; looks at slices are
abbrev pub is_for_all : Option Res → Bool
is_for_all None = true
is_for_all (Some r) = is_systems r

-- The tasks other than the asker that own by the list afterwards and didn't by the list before, in the
-- order of the list.
abbrev pub became_owners : List Elem → List Elem → TaskId → List TaskId
became_owners before after asker =
    pick (λ e. not (owns before e.task) && not (same_task asker e.task)) (λ e. e.task) (take (owners after) after)

-- the tasks that became owners of this resource, where there is one
abbrev pub became_owners_of : State → State → TaskId → Option Res → List TaskId
became_owners_of before after asker None = []
became_owners_of before after asker (Some r) = became_owners (list_of before r) (list_of after r) asker

-- the tasks other than the asker that become owners by a request
abbrev pub new_owners : State → TaskId → Want → List TaskId
new_owners s t w = became_owners_of s (after_want s t w) t (res_wanted w)
