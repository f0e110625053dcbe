-- What an answer, or control that another's request gave, does to a task, and what the task is told.
use Rattle.std.specs.Prelude.{◌≡◌, ℕ, zero, suc, ◌+◌, Bool, true, false, ◌&&◌, ◌==◌, List, [], ◌∷◌, ◌++◌, length, cond}
use Rattle.std.specs.Prelude.{Option, Some, None}
use Rattle.grs_base.specs.Same.{same_res}
use Rattle.grs_base.specs.declared.resource.Res.{Res}
use Rattle.grs_base.specs.declared.resource.Ctl.{Ctl}
use Rattle.grs_base.specs.declared.resource.Ret.{Ret}
use Rattle.grs_base.specs.declared.resource.Ret.TheVariants.{RetNone, RetUse, RetHave, RetChng, RetEcb}
use Rattle.grs_base.specs.declared.resource.Row.{Row}
use Rattle.grs_base.specs.declared.resource.TaskId.{TaskId}
use Rattle.grs_base.specs.declared.decision.Code.{Code}
use Rattle.grs_base.specs.declared.decision.Code.TheVariants.{C00, C04, Wait, End}
use Rattle.gqscan.specs.Shown.{code_for}
use Rattle.grs_wire.specs.declared.request.Want.{Want}
use Rattle.grs_wire.specs.declared.request.Want.TheVariants.{Enq, Deq, Release, Look}
use Rattle.grs_wire.specs.declared.request.Answer.{Answer}
use Rattle.grs_wire.specs.declared.request.Answer.TheVariants.{Coded, Rows}
use Rattle.grs_wire.specs.declared.told.Verb.TheVariants as verbs
use Rattle.grs_wire.specs.declared.told.Verb.{Verb}
use Rattle.grs_wire.specs.declared.told.ToldLine.{ToldLine}
use Rattle.grs_wire.specs.declared.told.ToldLine.TheVariants as told
use Rattle.task_state.specs.declared.state.Asked.{Asked}
use Rattle.task_state.specs.declared.state.Rec.{Rec}
use Rattle.task_state.specs.declared.state.Showing.{Showing}
use Rattle.task_state.specs.declared.state.Phase.{Phase}
use Rattle.task_state.specs.declared.state.Phase.TheVariants as phases
use Rattle.task_state.specs.View.{TasksView, is_task, state_of, record_of, with_phase, with_outstanding, with_record}
use Rattle.task_state.specs.View.{without_record, with_told, with_exclusive, with_rows, without_rows, telling}

-- the lines of one list stand first in another
abbrev pub IsFront : List ToldLine → List ToldLine → Type 0
IsFront front lines = (more : List ToldLine) × (lines ≡ front ++ more)

-- whether a code is 00
abbrev pub is_granted : Code → Bool
is_granted C00 = true
is_granted _ = false

-- Whether an ENQ that was answered like this stands in a list: it got control, or it waits, by an answer that is held
-- back or by an ECB. TEST and CHNG queue nothing.
abbrev pub is_queued : Ret → Code → Bool
is_queued RetNone C00 = true
is_queued RetNone Wait = true
is_queued RetHave C00 = true
is_queued RetHave Wait = true
is_queued RetUse C00 = true
is_queued RetEcb C00 = true
is_queued RetEcb C04 = true
is_queued _ _ = false

-- whether an ENQ that was answered like this made its task's control exclusive
abbrev pub is_changed : Ret → Code → Bool
is_changed RetChng C00 = true
is_changed _ _ = false

-- what a task does behind this answer
abbrev pub phase_after : Code → Phase
phase_after Wait = phases.HeldAnswer
phase_after (End n) = phases.Ending n
phase_after _ = phases.Ready

-- telling the code of a task's last line; WAIT isn't told
unfoldable pub tell_code : TasksView → TaskId → Verb → Code → TasksView
tell_code v t verb Wait = v
tell_code v t verb code = telling v (told.Coded t (state_of v t).line 0 verb code)

-- the record of an ENQ or RESERVE of a task's last line, with the unit that it reserves
abbrev pub new_record : TasksView → TaskId → Res → Ctl → Option ℕ → Code → Rec
new_record v t r c unit
    code = record { res = r; ctl = c; rank = 0; told = is_granted code; unit = unit; line = (state_of v t).line }

-- the records of a task after an ENQ was answered
unfoldable pub record_enq : TasksView → TaskId → Res → Ctl → Option ℕ → Ret → Code → TasksView
record_enq v t r c unit ret code =
    cond (is_queued ret code) (with_record v t (new_record v t r c unit code))
    (cond (is_changed ret code) (with_exclusive v t r) v)

-- a task after its own request was answered; a record that it makes has this unit
unfoldable pub after_code : TasksView → TaskId → Want → Option ℕ → Code → TasksView
after_code v t (Enq r c ret full) unit code =
    tell_code (with_phase (record_enq v t r c unit ret code) t (phase_after code)) t verbs.Enq code
after_code v t (Deq r have) unit code =
    tell_code (with_phase (cond (is_granted code) (without_record v t r) v) t (phase_after code)) t verbs.Deq code
after_code v t (Release r) unit code = without_record v t r
after_code v t (Look first count filter) unit code = v

-- the same by the whole answer; looks aren't decided at once, so no rows come here
unfoldable pub replied : TasksView → TaskId → Want → Option ℕ → Answer → TasksView
replied v t w unit (Coded code) = after_code v t w unit code
replied v t w unit (Rows rows) = v

-- whether a task is held by the answer of its last line
abbrev pub is_held : Phase → Bool
is_held phases.HeldAnswer = true
is_held _ = false

-- whether a task is held by a WAIT line for this resource
abbrev pub is_held_for : Res → Phase → Bool
is_held_for r (phases.HeldLine q) = same_res r q
is_held_for r _ = false

-- a task that is no longer held at a WAIT line for this resource
unfoldable pub passes_wait : TasksView → TaskId → Res → TasksView
passes_wait v t r =
    cond (is_held_for r (state_of v t).phase)
    (telling (with_phase v t phases.Ready) (told.Coded t (state_of v t).line 0 verbs.Wait C00)) v

-- A task is told control for which its line of this number asked: by that line's code if the task is held by its
-- answer, else by posting the line's ECB.
unfoldable pub tell_line : TasksView → TaskId → Res → ℕ → TasksView
tell_line v t r k =
    cond (is_held (state_of v t).phase && (k == (state_of v t).line))
    (telling (with_phase (with_told v t r) t phases.Ready) (told.Coded t k 0 verbs.Enq C00))
    (passes_wait (telling (with_told v t r) (told.Post t k)) t r)

-- whether a request gives a resource up
abbrev pub gives_up : Res → Want → Bool
gives_up r (Enq q c ret full) = false
gives_up r (Deq q have) = same_res r q
gives_up r (Release q) = same_res r q
gives_up r (Look first count filter) = false

-- whether a task's request that isn't answered yet gives a resource up
abbrev pub is_leaving : Res → Option Asked → Bool
is_leaving r None = false
is_leaving r (Some a) = gives_up r a.req.want

-- A task is told control of a record, if there is one that isn't told yet. Of a resource that it is about to give
-- up it is told nothing.
unfoldable pub tell_untold : TasksView → TaskId → Res → Option Rec → TasksView
tell_untold v t r None = v
tell_untold v t r (Some x) =
    cond x.told v (cond (is_leaving r (state_of v t).outstanding) (with_told v t r) (tell_line v t r x.line))

-- a task that got control of a resource by another's request; one that isn't of this system is passed over
unfoldable pub tell_control : TasksView → Res → TaskId → TasksView
tell_control v r t = cond (is_task v t) (tell_untold v t r (record_of (state_of v t).records r)) v

-- these tasks in order
unfoldable pub tell_all : TasksView → Res → List TaskId → TasksView
tell_all v r [] = v
tell_all v r (t ∷ ts) = tell_all (tell_control v r t) r ts

-- these tasks, which became owners of this resource, if it is one
unfoldable pub tell_new : TasksView → Option Res → List TaskId → TasksView
tell_new v None ts = v
tell_new v (Some r) ts = tell_all v r ts

-- what a task that asks this does meanwhile: it is ending where it asks for a RELEASE, else at its lines
abbrev pub phase_asking : Want → ℕ → Phase
phase_asking (Enq r c ret full) code = phases.Ready
phase_asking (Deq r have) code = phases.Ready
phase_asking (Release r) code = phases.Ending code
phase_asking (Look first count filter) code = phases.Ready

-- a task whose request is no longer outstanding
unfoldable pub recalled : TasksView → TaskId → Want → TasksView
recalled v t w = with_outstanding (with_phase v t (phase_asking w (state_of v t).code)) t None

-- A task is told the rows that its last line shows, all of them, and has none any more.
unfoldable pub tell_rows : TasksView → TaskId → Verb → TasksView
tell_rows v t verb =
    let rows = (state_of v t).rows in
    telling (without_rows v t) (told.Shown t (state_of v t).line verb (code_for (length rows)) rows)

-- the look at the slice behind those of a request
abbrev pub next_look : Want → Want
next_look (Enq r c ret full) = Enq r c ret full
next_look (Deq r have) = Deq r have
next_look (Release r) = Release r
next_look (Look first count filter) = Look (first + count) 1 filter

-- the request for the next slice of a line of which so many are left behind it
abbrev pub next_asked : TaskId → Asked → Verb → ℕ → Asked
next_asked t a verb left = record {
  req = record { task = t; want = next_look a.req.want };
  unit = a.unit;
  showing = Some (record { verb = verb; left = left });
}

-- A task that was shown what it looked at is told all rows of its line where nothing of it is left; else it looks at
-- the next slice.
unfoldable pub goes_on_looking : TasksView → TaskId → Asked → Verb → ℕ → TasksView
goes_on_looking v t a verb zero = tell_rows v t verb
goes_on_looking v t a verb (suc left) =
    with_outstanding (with_phase v t phases.ToSend) t (Some (next_asked t a verb left))

-- a task whose looks show these rows, which come behind those of its line so far
abbrev pub looked : TasksView → TaskId → Asked → List Row → Option Showing → TasksView
looked v t a rows None = v
looked v t a rows (Some s) = goes_on_looking (with_rows v t rows) t a s.verb s.left

-- a task whose request, which isn't outstanding any more, was answered
abbrev pub answered : TasksView → TaskId → Asked → Answer → TasksView
answered v t a (Coded code) = replied v t a.req.want a.unit (Coded code)
answered v t a (Rows rows) = looked v t a rows a.showing

-- a task whose outstanding request was answered
unfoldable pub tell_answer : TasksView → TaskId → Asked → Answer → TasksView
tell_answer v t a answer = answered (recalled v t a.req.want) t a answer

-- the same where a task has one
unfoldable pub tell_answer_any : TasksView → TaskId → Answer → Option Asked → TasksView
tell_answer_any v t answer None = v
tell_answer_any v t answer (Some a) = tell_answer v t a answer
