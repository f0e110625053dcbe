-- What the mail of star mode does to the tasks of a system: the answer to a task's request, and control that a task
-- got.
use Rattle.std.specs.Prelude.{ℕ, ◌+◌, Bool, true, false, not, ◌&&◌, ◌||◌, ◌==◌, nat_le, nat_lt, cond, map, List, []}
use Rattle.std.specs.Prelude.{◌∷◌, length, Option, Some, None, is_none}
use Rattle.std.specs.List.{list_all, list_any, flat_map}
use Rattle.std.specs.Option.{option_map_or}
use Rattle.std.specs.Ordering.{is_lt}
use Rattle.grs_base.specs.Limits.{last_number}
use Rattle.grs_base.specs.Lists.{owners, is_apart, enq_decision, deq_code}
use Rattle.grs_base.specs.Looks.{matches, is_contended}
use Rattle.grs_base.specs.ResOrder.{res_order}
use Rattle.grs_base.specs.Slices.{slice_of}
use Rattle.grs_base.specs.declared.decision.Code.{Code}
use Rattle.grs_base.specs.declared.decision.Code.TheVariants.{C00, C04, C08, C14, C18, Wait, End}
use Rattle.grs_base.specs.declared.decision.Standing.{Standing}
use Rattle.grs_base.specs.declared.decision.Standing.TheVariants.{Exclusive, OnlyShared, AmongShared, Waits, Absent}
use Rattle.grs_base.specs.declared.look.Filter.{Filter}
use Rattle.grs_base.specs.declared.resource.Res.{Res}
use Rattle.grs_base.specs.declared.resource.Res.TheVariants.{Step, System, Systems}
use Rattle.grs_base.specs.declared.resource.Ret.{Ret}
use Rattle.grs_base.specs.declared.resource.Row.{Row}
use Rattle.grs_base.specs.declared.resource.TaskId.{TaskId}
use Rattle.grs_wire.specs.Wants.{res_wanted}
use Rattle.grs_wire.specs.declared.medium.Mail.{Mail}
use Rattle.grs_wire.specs.declared.medium.Mail.TheVariants.{Request, Answered, Granted, Notice, Part}
use Rattle.grs_wire.specs.declared.request.Answer.{Answer}
use Rattle.grs_wire.specs.declared.request.Answer.TheVariants.{Coded, Rows}
use Rattle.grs_wire.specs.declared.request.Want.{Want}
use Rattle.grs_wire.specs.declared.request.Want.TheVariants.{Enq, Deq, Release, Look}
use Rattle.task_state.specs.declared.state.Asked.{Asked}
use Rattle.task_state.specs.Replies.{tell_answer, tell_control}
use Rattle.task_state.specs.View.{TasksView, is_task, state_of, is_sent, record_of, with_rank}

-- ---- which answers a request can get

abbrev pub standings : List Standing
standings = Exclusive ∷ OnlyShared ∷ AmongShared ∷ Waits ∷ Absent ∷ []

-- the codes that the tables of ENQ and DEQ have for a request, whatever stands in the list
abbrev pub enq_codes : Ret → Bool → List Code
enq_codes ret full =
    flat_map (λ s. (enq_decision s ret full true).code ∷ (enq_decision s ret full false).code ∷ []) standings

abbrev pub deq_codes : Bool → List Code
deq_codes have = map (λ s. deq_code s have) standings

abbrev pub same_code : Code → Code → Bool
same_code C00 C00 = true
same_code C04 C04 = true
same_code C08 C08 = true
same_code C14 C14 = true
same_code C18 C18 = true
same_code Wait Wait = true
same_code (End n) (End m) = n == m
same_code c d = false

abbrev pub is_code_of : List Code → Code → Bool
is_code_of cs c = list_any (same_code c) cs

-- the slice of a resource; only one of the whole complex has one
abbrev pub slice_in : Res → Option ℕ
slice_in (Step s j q r) = None
slice_in (System s q r) = None
slice_in (Systems q r) = Some (slice_of q r)

-- whether a resource is of one of so many slices from this one on
abbrev pub is_among : ℕ → ℕ → Res → Bool
is_among first count r = option_map_or (λ n. nat_le first n && nat_lt n (first + count)) (slice_in r) false

-- whether a row has a list that isn't empty, and tells how many of it own
abbrev pub tells_owners : Row → Bool
tells_owners row = not (length row.elems == 0) && (row.owners == owners row.elems)

-- Whether looks at so many slices from this one on, with this filter, can show a row, whatever stands in the lists. No
-- task stands twice in one.
abbrev pub can_show : ℕ → ℕ → Filter → Row → Bool
can_show first count f row =
    is_among first count row.res && (matches f row.res (is_contended row) && (tells_owners row && is_apart row.elems))

-- whether looks show the first of two resources before the second: slice after slice, and in a slice by name
abbrev pub is_before_in : Option ℕ → Option ℕ → Bool → Bool
is_before_in (Some n) (Some k) by_name = nat_lt n k || ((n == k) && by_name)
is_before_in (Some n) None by_name = false
is_before_in None o by_name = false

abbrev pub is_shown_before : Res → Res → Bool
is_shown_before a b = is_before_in (slice_in a) (slice_in b) (is_lt (res_order a b))

-- whether rows stand in this order, and so no two of them are of one resource
abbrev pub is_next : Row → List Row → Bool
is_next row [] = true
is_next row (next ∷ rows) = is_shown_before row.res next.res

abbrev pub are_in_order : List Row → Bool
are_in_order [] = true
are_in_order (row ∷ rows) = is_next row rows && are_in_order rows

-- Whether looks at so many slices from this one on, with this filter, can show these rows. Whose tasks there are the
-- system of a task can't tell.
abbrev pub can_show_all : ℕ → ℕ → Filter → List Row → Bool
can_show_all first count f rows = list_all (can_show first count f) rows && are_in_order rows

-- whether a request can get this answer
abbrev pub can_get : Want → Answer → Bool
can_get (Enq r c ret full) (Coded code) = is_code_of (enq_codes ret full) code
can_get (Deq r have) (Coded code) = is_code_of (deq_codes have) code
can_get (Release r) (Coded code) = same_code code C00
can_get (Look first count f) (Rows rows) = can_show_all first count f rows
can_get w a = false

-- ---- an answer with a rank

-- the resource of the record that an answer may make: that of which its task has none
abbrev pub unrecorded : TasksView → TaskId → Option Res → Option Res
unrecorded v t None = None
unrecorded v t (Some r) = cond (is_none (record_of (state_of v t).records r)) (Some r) None

abbrev pub with_rank_of : TasksView → TaskId → Option Res → ℕ → TasksView
with_rank_of v t None rank = v
with_rank_of v t (Some r) rank = with_rank v t r rank

-- a task whose outstanding request was answered; a record that this makes has this rank
unfoldable pub tell_answer_ranked : TasksView → TaskId → Asked → Answer → ℕ → TasksView
tell_answer_ranked v t a answer rank =
    with_rank_of (tell_answer v t a answer) t (unrecorded v t (res_wanted a.req.want)) rank

-- the same where a task has one
abbrev pub tell_answer_any_ranked : TasksView → TaskId → Answer → ℕ → Option Asked → TasksView
tell_answer_any_ranked v t answer rank None = v
tell_answer_any_ranked v t answer rank (Some a) = tell_answer_ranked v t a answer rank

-- ---- mail

-- whether an answer is one that the outstanding request of a task can get
abbrev pub is_awaited : Answer → Option Asked → Bool
is_awaited answer None = false
is_awaited answer (Some a) = can_get a.req.want answer

-- whether a task of this system has sent its request, and it isn't answered yet
abbrev pub has_sent : TasksView → TaskId → Bool
has_sent v t = is_task v t && is_sent (state_of v t).phase

-- Whether the answer to a task's request has an effect: the task has sent one that can get this answer, and the rank is
-- one that there can be.
abbrev pub has_effect : TasksView → TaskId → Answer → ℕ → Bool
has_effect v t answer rank = has_sent v t && (nat_le rank last_number && is_awaited answer (state_of v t).outstanding)

-- The tasks after a mail. A request is for their system as a manager, and nothing to them; nor is a notice or a part.
unfoldable pub after_mail : TasksView → Mail → TasksView
after_mail v (Request entry from q) = v
after_mail v (Answered t answer rank) =
    cond (has_effect v t answer rank) (tell_answer_any_ranked v t answer rank (state_of v t).outstanding) v
after_mail v (Granted t r) = tell_control v r t
after_mail v (Notice target moved) = v
after_mail v (Part entry from records) = v
