-- What an entry of the message does at a system, on examples: each is what the rules of the service give by hand.
use Rattle.std.proofs.Common.{◌≡◌, ℕ, Bool, true, false, List, [], ◌∷◌, Option, Some, None, refl, codes}
use Rattle.grs_base.specs.State.{State}
use Rattle.grs_base.specs.declared.decision.Code.TheVariants.{C00}
use Rattle.grs_base.specs.declared.resource.Ctl.{Ctl}
use Rattle.grs_base.specs.declared.resource.Ctl.TheVariants.{E, S}
use Rattle.grs_base.specs.declared.resource.Res.{Res}
use Rattle.grs_base.specs.declared.resource.Res.TheVariants.{Step, System, Systems}
use Rattle.grs_base.specs.declared.resource.Ret.TheVariants.{RetNone, RetChng, RetUse}
use Rattle.grs_base.specs.declared.resource.TaskId.{TaskId}
use Rattle.grs_wire.specs.declared.request.Req.{Req}
use Rattle.grs_wire.specs.declared.request.Want.{Want}
use Rattle.grs_wire.specs.declared.request.Want.TheVariants.{Enq, Deq, Release}
use Rattle.grs_wire.specs.declared.told.ToldLine.TheVariants as told
use Rattle.grs_wire.specs.declared.told.Verb.{Verb}
use Rattle.grs_wire.specs.declared.told.Verb.TheVariants as verbs
use Rattle.ring_mode.specs.Ring.{side_of, answer_own, process, process_entry}
use Rattle.task_state.specs.Replies.{tell_code, record_enq, after_code, replied, tell_line, tell_untold, tell_control}
use Rattle.task_state.specs.Replies.{tell_all, tell_new, recalled, tell_answer, tell_answer_any}
use Rattle.task_state.specs.View.{TasksView, state_of, with_state, with_phase, with_outstanding, with_record}
use Rattle.task_state.specs.View.{without_record, with_told, with_exclusive, telling}
use Rattle.task_state.specs.declared.state.Asked.{Asked}
use Rattle.task_state.specs.declared.state.Phase.{Phase}
use Rattle.task_state.specs.declared.state.Phase.TheVariants as phases
use Rattle.task_state.specs.declared.state.Rec.{Rec}

abbrev res : Res
res = Systems (codes "A") (codes "B")

-- the task of a system
abbrev task : ℕ → TaskId
task s = record { system = record { 0 = s }; job = 0; task = 0 }

abbrev asks : TaskId → Want → Req
asks t w = record { task = t; want = w }

abbrev enq : Want
enq = Enq res E RetNone false

abbrev deq : Want
deq = Deq res false

abbrev outstanding : Want → Option Asked
outstanding w = Some (record { req = asks (task 0) w; unit = None; showing = None })

-- system 0, whose task has taken one line
abbrev one : Phase → List Rec → Option Asked → TasksView
one phase recs asked = record {
  system = 0;
  tasks = record { line = 1; phase = phase; code = 0; records = recs; outstanding = asked; rows = [] } ∷ [];
  told = [];
}

-- the same once it was told 00 for that line
abbrev told_00 : Verb → List Rec → TasksView
told_00 verb recs = record (one phases.Ready recs None) { told = told.Coded (task 0) 1 0 verb C00 ∷ [] }

abbrev rec_told : Bool → Rec
rec_told told = record { res = res; ctl = E; rank = 0; told = told; unit = None; line = 1 }

-- a table with this task in front of others in the list of (A,B)
abbrev with_first : TaskId → Ctl → State → State
with_first t c s = (res, record { task = t; ctl = c }) ∷ s

-- ---- an entry of the system's own
-- the task has sent this request: it is told the answer
answers_own : process_entry (side_of (one phases.Sent [] (outstanding enq)) []) (asks (task 0) enq)
    ≡ side_of (told_00 verbs.Enq (rec_told true ∷ [])) (with_first (task 0) E [])
unfolding state_of with_state with_phase with_outstanding with_record telling tell_code record_enq after_code replied
    recalled tell_answer tell_answer_any answer_own tell_all tell_new process process_entry
answers_own = refl

-- It isn't Sent, or with another request: the table is carried on, and the task told nothing.
not_sent : process_entry (side_of (one phases.ToSend [] (outstanding enq)) []) (asks (task 0) enq)
    ≡ side_of (one phases.ToSend [] (outstanding enq)) (with_first (task 0) E [])
unfolding state_of answer_own tell_all tell_new process process_entry
not_sent = refl

other_request :
    process_entry (side_of (one phases.Sent [] (outstanding (Enq res E RetUse false))) []) (asks (task 0) enq)
    ≡ side_of (one phases.Sent [] (outstanding (Enq res E RetUse false))) (with_first (task 0) E [])
unfolding state_of answer_own tell_all tell_new process process_entry
other_request = refl

nothing_asked : process_entry (side_of (one phases.Sent [] None) []) (asks (task 0) enq)
    ≡ side_of (one phases.Sent [] None) (with_first (task 0) E [])
unfolding state_of answer_own tell_all tell_new process process_entry
nothing_asked = refl

-- An entry for a resource of one system or one step has no effect at all, even where the task has sent just that.
abbrev of_system : Want
of_system = Enq (System (record { 0 = 0 }) (codes "A") (codes "B")) E RetNone false

of_one_system : process_entry (side_of (one phases.Sent [] (outstanding of_system)) []) (asks (task 0) of_system)
    ≡ side_of (one phases.Sent [] (outstanding of_system)) []
unfolding process_entry
of_one_system = refl

abbrev of_step : Want
of_step = Enq (Step (record { 0 = 0 }) 0 (codes "A") (codes "B")) E RetNone false

of_one_step : process_entry (side_of (one phases.Sent [] (outstanding of_step)) []) (asks (task 0) of_step)
    ≡ side_of (one phases.Sent [] (outstanding of_step)) []
unfolding process_entry
of_one_step = refl

-- ---- records
-- no second record is made, and none is changed or taken out where there is none; all else that the answer does is done
makes_none : process_entry (side_of (one phases.Sent (rec_told false ∷ []) (outstanding enq)) []) (asks (task 0) enq)
    ≡ side_of (told_00 verbs.Enq (rec_told false ∷ [])) (with_first (task 0) E [])
unfolding state_of with_state with_phase with_outstanding with_record telling tell_code record_enq after_code replied
    recalled tell_answer tell_answer_any answer_own tell_all tell_new process process_entry
makes_none = refl

abbrev chng : Want
chng = Enq res E RetChng false

changes_none :
    process_entry (side_of (one phases.Sent [] (outstanding chng)) (with_first (task 0) S [])) (asks (task 0) chng)
    ≡ side_of (told_00 verbs.Enq []) (with_first (task 0) E [])
unfolding state_of with_state with_phase with_outstanding with_exclusive telling tell_code record_enq after_code replied
    recalled tell_answer tell_answer_any answer_own tell_all tell_new process process_entry
changes_none = refl

takes_none :
    process_entry (side_of (one phases.Sent [] (outstanding deq)) (with_first (task 0) E [])) (asks (task 0) deq)
    ≡ side_of (told_00 verbs.Deq []) []
unfolding state_of with_state with_phase with_outstanding without_record telling tell_code after_code replied recalled
    tell_answer tell_answer_any answer_own tell_all tell_new process process_entry
takes_none = refl

releases_none :
    process_entry (side_of (one phases.Sent [] (outstanding (Release res))) (with_first (task 0) E []))
    (asks (task 0) (Release res))
    ≡ side_of (one (phases.Ending 0) [] None) []
unfolding state_of with_state with_phase with_outstanding without_record after_code replied recalled tell_answer
    tell_answer_any answer_own tell_all tell_new process process_entry
releases_none = refl

-- ---- control by another system's request
-- The task of system 1 gives (A,B) up, and that of system 0 waits behind it.
abbrev given_up : TasksView → TasksView → Type 0
given_up before after =
    process_entry (side_of before (with_first (task 1) E (with_first (task 0) E []))) (asks (task 1) deq)
    ≡ side_of after (with_first (task 0) E [])

goes_on : given_up (one phases.HeldAnswer (rec_told false ∷ []) None) (told_00 verbs.Enq (rec_told true ∷ []))
unfolding state_of with_state with_phase with_told telling tell_line tell_untold tell_control answer_own tell_all
    tell_new process process_entry
goes_on = refl

-- it is told nothing where it has no record of (A,B), where it was told, and where it is about to give (A,B) up
no_record : given_up (one phases.Ready [] None) (one phases.Ready [] None)
unfolding state_of tell_untold tell_control answer_own tell_all tell_new process process_entry
no_record = refl

told_before : given_up (one phases.Ready (rec_told true ∷ []) None) (one phases.Ready (rec_told true ∷ []) None)
unfolding state_of tell_untold tell_control answer_own tell_all tell_new process process_entry
told_before = refl

about_to_leave :
    given_up (one phases.Sent (rec_told false ∷ []) (outstanding deq))
    (one phases.Sent (rec_told true ∷ []) (outstanding deq))
unfolding state_of with_state with_told tell_untold tell_control answer_own tell_all tell_new process process_entry
about_to_leave = refl
