-- What mail does to a task, on examples: each is what the rules of the service give by hand.
use Rattle.std.proofs.Common.{◌≡◌, ◌+◌, ◌^◌, ℕ, true, false, List, [], ◌∷◌, Option, Some, None, refl, codes}
use Rattle.grs_base.specs.declared.decision.Code.TheVariants.{C00, C04, C08, C18, Wait, End}
use Rattle.grs_base.specs.declared.look.Filter.TheVariants.{All, Contended, Named}
use Rattle.grs_base.specs.declared.resource.Ctl.TheVariants.{E, S}
use Rattle.grs_base.specs.declared.resource.Res.{Res}
use Rattle.grs_base.specs.declared.resource.Res.TheVariants.{System, Systems}
use Rattle.grs_base.specs.declared.resource.Row.{Row}
use Rattle.grs_base.specs.declared.resource.Ret.TheVariants.{RetNone, RetUse, RetChng, RetEcb}
use Rattle.grs_base.specs.declared.resource.TaskId.{TaskId}
use Rattle.grs_wire.specs.declared.medium.Mail.TheVariants.{Request, Answered, Granted, Notice, Part}
use Rattle.grs_wire.specs.declared.request.Answer.TheVariants.{Coded, Rows}
use Rattle.grs_wire.specs.declared.request.Want.{Want}
use Rattle.grs_wire.specs.declared.request.Want.TheVariants.{Enq, Deq, Release, Look}
use Rattle.grs_wire.specs.declared.told.ToldLine.TheVariants as told
use Rattle.grs_wire.specs.declared.told.Verb.TheVariants as verbs
use Rattle.star_client.specs.Client.{can_get, tell_answer_ranked, after_mail}
use Rattle.task_state.specs.Replies.{tell_code, record_enq, after_code, replied, tell_line, tell_untold, tell_control}
use Rattle.task_state.specs.Replies.{recalled, tell_rows, goes_on_looking, tell_answer}
use Rattle.task_state.specs.View.{TasksView, state_of, with_state, with_phase, with_outstanding, with_record}
use Rattle.task_state.specs.View.{without_record, with_told, with_exclusive, with_rank, with_rows, without_rows}
use Rattle.task_state.specs.View.{telling}
use Rattle.task_state.specs.declared.state.Asked.{Asked}
use Rattle.task_state.specs.declared.state.Phase.{Phase}
use Rattle.task_state.specs.declared.state.Phase.TheVariants as phases
use Rattle.task_state.specs.declared.state.Rec.{Rec}

-- ---- which answers a request can get
abbrev res : Res
res = Systems (codes "A") (codes "B")

abbrev asker : ℕ → TaskId
asker k = record { system = record { 0 = 0 }; job = 0; task = k }

a_wait : can_get (Enq res E RetNone false) (Coded Wait) ≡ true
a_wait = refl

no_wait : can_get (Enq res E RetUse false) (Coded Wait) ≡ false
no_wait = refl

none_full : can_get (Enq res E RetNone true) (Coded C00) ≡ false
none_full = refl

full : can_get (Enq res E RetEcb true) (Coded C18) ≡ true
full = refl

too_many : (can_get (Enq res E RetNone true) (Coded (End 538)) ≡ true)
    × (can_get (Enq res E RetNone false) (Coded (End 538)) ≡ false)
too_many = (refl, refl)

no_such_end : can_get (Enq res E RetNone false) (Coded (End 530)) ≡ false
no_such_end = refl

changed : (can_get (Enq res E RetChng false) (Coded C04) ≡ true)
    × (can_get (Enq res E RetChng false) (Coded C18) ≡ false)
changed = (refl, refl)

given_up : (can_get (Deq res false) (Coded (End 130)) ≡ true) × (can_get (Deq res false) (Coded C08) ≡ false)
    × (can_get (Deq res true) (Coded C08) ≡ true)
given_up = (refl, refl, refl)

released : (can_get (Release res) (Coded C00) ≡ true) × (can_get (Release res) (Coded C04) ≡ false)
released = (refl, refl)

-- looks are answered with rows alone, and nothing else is
shown : (can_get (Look 0 4 All) (Rows []) ≡ true) × (can_get (Look 0 4 All) (Coded C00) ≡ false)
    × (can_get (Release res) (Rows []) ≡ false)
shown = (refl, refl, refl)

-- (A,B) is of slice 52; a row of it can be shown by looks at that slice, in a list that one owns and another waits in
abbrev row_of : Res → ℕ → Row
row_of r n = record {
  res = r;
  elems = record { task = asker 0; ctl = E } ∷ record { task = asker 1; ctl = E } ∷ [];
  owners = n;
}

a_row : (can_get (Look 52 1 All) (Rows (row_of res 1 ∷ [])) ≡ true)
    × (can_get (Look 50 3 Contended) (Rows (row_of res 1 ∷ [])) ≡ true)
a_row = (refl, refl)

-- not by looks at other slices, nor by those that ask for another name
other_slice : (can_get (Look 53 11 All) (Rows (row_of res 1 ∷ [])) ≡ false)
    × (can_get (Look 0 52 All) (Rows (row_of res 1 ∷ [])) ≡ false)
other_slice = (refl, refl)

other_name : (can_get (Look 52 1 (Named (Some (codes "A")) None)) (Rows (row_of res 1 ∷ [])) ≡ true)
    × (can_get (Look 52 1 (Named (Some (codes "C")) None)) (Rows (row_of res 1 ∷ [])) ≡ false)
other_name = (refl, refl)

-- not a row of one system's resource, one that counts the owners wrong, one without elements, and one that stands twice
own_row : can_get (Look 52 1 All) (Rows (row_of (System (record { 0 = 0 }) (codes "A") (codes "B")) 1 ∷ [])) ≡ false
own_row = refl

two_owners : can_get (Look 52 1 All) (Rows (row_of res 2 ∷ [])) ≡ false
two_owners = refl

no_list : can_get (Look 52 1 All) (Rows (record { res = res; elems = []; owners = 0 } ∷ [])) ≡ false
no_list = refl

twice : can_get (Look 52 1 All) (Rows (row_of res 1 ∷ row_of res 1 ∷ [])) ≡ false
twice = refl

-- nor one in whose list a task stands twice, be it that it owns by both elements or waits by one
abbrev shared_by : TaskId → TaskId → TaskId → Row
shared_by t u v = record {
  res = res;
  elems = record { task = t; ctl = S } ∷ record { task = u; ctl = S } ∷ record { task = v; ctl = E } ∷ [];
  owners = 2;
}

task_twice :
    (can_get (Look 52 1 All) (Rows (shared_by (asker 0) (asker 1) (asker 2) ∷ [])) ≡ true)
    × (can_get (Look 52 1 All) (Rows (shared_by (asker 0) (asker 0) (asker 2) ∷ [])) ≡ false)
    × (can_get (Look 52 1 All) (Rows (shared_by (asker 0) (asker 1) (asker 0) ∷ [])) ≡ false)
    × (can_get (Look 52 1 All) (Rows (shared_by (asker 0) (asker 1) (asker 1) ∷ [])) ≡ false)
task_twice = (refl, refl, refl, refl)

-- ---- one task of system 0, which has asked for (A,B) by its first line
abbrev task : TaskId
task = record { system = record { 0 = 0 }; job = 0; task = 0 }

abbrev asks : Option Want → Option Asked
asks None = None
asks (Some w) = Some (record { req = record { task = task; want = w }; unit = None; showing = None })

abbrev having : List Rec → Phase → Option Want → TasksView
having recs phase want = record {
  system = 0;
  tasks = record { line = 1; phase = phase; code = 0; records = recs; outstanding = asks want; rows = [] } ∷ [];
  told = [];
}

abbrev asking : Phase → TasksView
asking phase = having [] phase (Some (Enq res E RetNone false))

-- ---- answers
-- the record gets the rank, and the task is told
answer : after_mail (asking phases.Sent) (Answered task (Coded C00) 7)
    ≡ record (having (record { res = res; ctl = E; rank = 7; told = true; unit = None; line = 1 } ∷ []) phases.Ready
    None)
    { told = told.Coded task 1 0 verbs.Enq C00 ∷ [] }
unfolding state_of with_state with_phase with_outstanding with_record with_rank telling tell_code record_enq after_code
    replied recalled tell_answer tell_answer_ranked after_mail
answer = refl

-- one that waits is told nothing yet
waiting : after_mail (asking phases.Sent) (Answered task (Coded Wait) 7)
    ≡ having (record { res = res; ctl = E; rank = 7; told = false; unit = None; line = 1 } ∷ []) phases.HeldAnswer None
unfolding state_of with_state with_phase with_outstanding with_record with_rank telling tell_code record_enq after_code
    replied recalled tell_answer tell_answer_ranked after_mail
waiting = refl

-- the last rank is one, and there is none behind it
last_rank : after_mail (asking phases.Sent) (Answered task (Coded Wait) (2 ^ 57))
    ≡ having (record { res = res; ctl = E; rank = 2 ^ 57; told = false; unit = None; line = 1 } ∷ []) phases.HeldAnswer
    None
unfolding state_of with_state with_phase with_outstanding with_record with_rank telling tell_code record_enq after_code
    replied recalled tell_answer tell_answer_ranked after_mail
last_rank = refl

past_the_last : after_mail (asking phases.Sent) (Answered task (Coded C00) (2 ^ 57 + 1)) ≡ asking phases.Sent
unfolding state_of after_mail
past_the_last = refl

-- a task whose request wasn't sent awaits no answer
not_sent : after_mail (asking phases.ToSend) (Answered task (Coded C00) 7) ≡ asking phases.ToSend
unfolding state_of after_mail
not_sent = refl

-- nor one that the request can't get
other_answer : after_mail (asking phases.Sent) (Answered task (Coded C04) 7) ≡ asking phases.Sent
unfolding state_of after_mail
other_answer = refl

-- a task that has sent nothing, whatever its phase says
nothing_asked : after_mail (having [] phases.Sent None) (Answered task (Coded C00) 7) ≡ having [] phases.Sent None
unfolding state_of after_mail
nothing_asked = refl

-- a task of another system, and one that isn't there
other_system :
    after_mail (asking phases.Sent) (Answered (record { system = record { 0 = 1 }; job = 0; task = 0 }) (Coded C00) 7)
    ≡ asking phases.Sent
unfolding state_of after_mail
other_system = refl

no_task :
    after_mail (asking phases.Sent) (Answered (record { system = record { 0 = 0 }; job = 0; task = 1 }) (Coded C00) 7)
    ≡ asking phases.Sent
unfolding state_of after_mail
no_task = refl

-- a request is nothing to the tasks
request : after_mail (asking phases.Sent) (Request 4 (record { 0 = 1 }) (record { task = task; want = Release res }))
    ≡ asking phases.Sent
unfolding after_mail
request = refl

-- nor is a notice or a part
notice : after_mail (asking phases.Sent) (Notice (record { 0 = 1 }) []) ≡ asking phases.Sent
unfolding after_mail
notice = refl

part : after_mail (asking phases.Sent) (Part 4 (record { 0 = 1 }) []) ≡ asking phases.Sent
unfolding after_mail
part = refl

-- ---- control
abbrev untold : Rec
untold = record { res = res; ctl = E; rank = 7; told = false; unit = None; line = 1 }

abbrev told_rec : Rec
told_rec = record { res = res; ctl = E; rank = 7; told = true; unit = None; line = 1 }

-- a task that waits by its answer goes on
granted : after_mail (having (untold ∷ []) phases.HeldAnswer None) (Granted task res)
    ≡ record (having (told_rec ∷ []) phases.Ready None) { told = told.Coded task 1 0 verbs.Enq C00 ∷ [] }
unfolding state_of with_state with_phase with_told telling tell_line tell_untold tell_control after_mail
granted = refl

-- one that was told already, or has no record, is told nothing
told_before : after_mail (having (told_rec ∷ []) phases.Ready None) (Granted task res)
    ≡ having (told_rec ∷ []) phases.Ready None
unfolding state_of tell_untold tell_control after_mail
told_before = refl

no_record : after_mail (having [] phases.Ready None) (Granted task res) ≡ having [] phases.Ready None
unfolding state_of tell_untold tell_control after_mail
no_record = refl

-- nor is a task of another system
granted_elsewhere :
    after_mail (having (untold ∷ []) phases.HeldAnswer None)
    (Granted (record { system = record { 0 = 1 }; job = 0; task = 0 }) res)
    ≡ having (untold ∷ []) phases.HeldAnswer None
unfolding tell_control after_mail
granted_elsewhere = refl

-- a task that is about to give the resource up isn't told either: its record counts as told
leaving : after_mail (having (untold ∷ []) phases.Sent (Some (Deq res false))) (Granted task res)
    ≡ having (told_rec ∷ []) phases.Sent (Some (Deq res false))
unfolding state_of with_state with_told tell_untold tell_control after_mail
leaving = refl

-- ---- what an answer does to the records
abbrev shared : Rec
shared = record { res = res; ctl = S; rank = 7; told = true; unit = None; line = 1 }

abbrev other : Rec
other = record { res = Systems (codes "C") (codes "D"); ctl = S; rank = 3; told = true; unit = None; line = 0 }

-- 00 of CHNG makes the record's control exclusive, and its rank stays
made_exclusive :
    after_mail (having (other ∷ shared ∷ []) phases.Sent (Some (Enq res E RetChng false))) (Answered task (Coded C00) 0)
    ≡ record (having (other ∷ told_rec ∷ []) phases.Ready None) { told = told.Coded task 1 0 verbs.Enq C00 ∷ [] }
unfolding state_of with_state with_phase with_outstanding with_exclusive with_rank telling tell_code record_enq
    after_code replied recalled tell_answer tell_answer_ranked after_mail
made_exclusive = refl

-- 00 of DEQ, and a RELEASE, take the record out, and none else
taken_out : after_mail (having (other ∷ told_rec ∷ []) phases.Sent (Some (Deq res false))) (Answered task (Coded C00) 0)
    ≡ record (having (other ∷ []) phases.Ready None) { told = told.Coded task 1 0 verbs.Deq C00 ∷ [] }
unfolding state_of with_state with_phase with_outstanding without_record with_rank telling tell_code after_code replied
    recalled tell_answer tell_answer_ranked after_mail
taken_out = refl

released_record :
    after_mail (having (told_rec ∷ other ∷ []) phases.Sent (Some (Release res))) (Answered task (Coded C00) 0)
    ≡ having (other ∷ []) (phases.Ending 0) None
unfolding state_of with_state with_phase with_outstanding without_record with_rank after_code replied recalled
    tell_answer tell_answer_ranked after_mail
released_record = refl

-- a new record comes last, and a record of another resource keeps its rank
behind_another :
    after_mail (having (other ∷ []) phases.Sent (Some (Enq res E RetNone false))) (Answered task (Coded C00) 7)
    ≡ record (having (other ∷ told_rec ∷ []) phases.Ready None) { told = told.Coded task 1 0 verbs.Enq C00 ∷ [] }
unfolding state_of with_state with_phase with_outstanding with_record with_rank telling tell_code record_enq after_code
    replied recalled tell_answer tell_answer_ranked after_mail
behind_another = refl

-- An answer that would make a record where the task has one of that resource leaves this one, its rank and its mark
-- too.
-- All else that the answer does is done.
makes_none :
    after_mail (having (told_rec ∷ []) phases.Sent (Some (Enq res S RetNone false))) (Answered task (Coded C00) 9)
    ≡ record (having (told_rec ∷ []) phases.Ready None) { told = told.Coded task 1 0 verbs.Enq C00 ∷ [] }
unfolding state_of with_state with_phase with_outstanding with_record with_rank telling tell_code record_enq after_code
    replied recalled tell_answer tell_answer_ranked after_mail
makes_none = refl

marks_none :
    after_mail (having (untold ∷ []) phases.Sent (Some (Enq res E RetNone false))) (Answered task (Coded C00) 9)
    ≡ record (having (untold ∷ []) phases.Ready None) { told = told.Coded task 1 0 verbs.Enq C00 ∷ [] }
unfolding state_of with_state with_phase with_outstanding with_record with_rank telling tell_code record_enq after_code
    replied recalled tell_answer tell_answer_ranked after_mail
marks_none = refl

waits_with_one :
    after_mail (having (told_rec ∷ []) phases.Sent (Some (Enq res E RetNone false))) (Answered task (Coded Wait) 9)
    ≡ having (told_rec ∷ []) phases.HeldAnswer None
unfolding state_of with_state with_phase with_outstanding with_record with_rank tell_code record_enq after_code replied
    recalled tell_answer tell_answer_ranked after_mail
waits_with_one = refl

-- so does one that would change a record, or take one out, where the task has none of that resource
changes_none :
    after_mail (having (other ∷ []) phases.Sent (Some (Enq res E RetChng false))) (Answered task (Coded C00) 9)
    ≡ record (having (other ∷ []) phases.Ready None) { told = told.Coded task 1 0 verbs.Enq C00 ∷ [] }
unfolding state_of with_state with_phase with_outstanding with_exclusive with_rank telling tell_code record_enq
    after_code replied recalled tell_answer tell_answer_ranked after_mail
changes_none = refl

takes_none : after_mail (having (other ∷ []) phases.Sent (Some (Deq res false))) (Answered task (Coded C00) 9)
    ≡ record (having (other ∷ []) phases.Ready None) { told = told.Coded task 1 0 verbs.Deq C00 ∷ [] }
unfolding state_of with_state with_phase with_outstanding without_record with_rank telling tell_code after_code replied
    recalled tell_answer tell_answer_ranked after_mail
takes_none = refl

releases_none : after_mail (having (other ∷ []) phases.Sent (Some (Release res))) (Answered task (Coded C00) 9)
    ≡ having (other ∷ []) (phases.Ending 0) None
unfolding state_of with_state with_phase with_outstanding without_record with_rank after_code replied recalled
    tell_answer tell_answer_ranked after_mail
releases_none = refl

-- an answer without effect on a record leaves its rank
keeps_rank : after_mail (having (untold ∷ []) phases.Sent (Some (Deq res true))) (Answered task (Coded C04) 0)
    ≡ record (having (untold ∷ []) phases.Ready None) { told = told.Coded task 1 0 verbs.Deq C04 ∷ [] }
unfolding state_of with_state with_phase with_outstanding with_rank telling tell_code after_code replied recalled
    tell_answer tell_answer_ranked after_mail
keeps_rank = refl

-- ---- looks: a task of system 0 whose first line is a GQSCAN, of which so many slices are left
abbrev showing : ℕ → ℕ → Phase → List Row → TasksView
showing first left phase rows = record {
  system = 0;
  tasks =
      record {
        line = 1;
        phase = phase;
        code = 0;
        records = [];
        outstanding =
            Some (record {
              req = record { task = task; want = Look first 1 All };
              unit = None;
              showing = Some (record { verb = verbs.Gqscan; left = left });
            });
        rows = rows;
      }
      ∷ [];
  told = [];
}

-- the rows of a slice, and the look at the next one waits to be sent
looks_on : after_mail (showing 52 1 phases.Sent []) (Answered task (Rows (row_of res 1 ∷ [])) 0)
    ≡ showing 53 0 phases.ToSend (row_of res 1 ∷ [])
unfolding state_of with_state with_phase with_outstanding with_rows with_rank recalled goes_on_looking tell_answer
    tell_answer_ranked after_mail
looks_on = refl

-- behind the last slice the line is told all rows, and that there are none where there are none
shows : after_mail (showing 53 0 phases.Sent (row_of res 1 ∷ [])) (Answered task (Rows []) 0)
    ≡ record (having [] phases.Ready None) { told = told.Shown task 1 verbs.Gqscan C00 (row_of res 1 ∷ []) ∷ [] }
unfolding state_of with_state with_phase with_outstanding with_rows without_rows with_rank telling tell_rows recalled
    goes_on_looking tell_answer tell_answer_ranked after_mail
shows = refl

shows_none : after_mail (showing 53 0 phases.Sent []) (Answered task (Rows []) 0)
    ≡ record (having [] phases.Ready None) { told = told.Shown task 1 verbs.Gqscan C04 [] ∷ [] }
unfolding state_of with_state with_phase with_outstanding with_rows without_rows with_rank telling tell_rows recalled
    goes_on_looking tell_answer tell_answer_ranked after_mail
shows_none = refl
