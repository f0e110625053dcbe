-- What a system does in star mode, on examples: each is what the rules of the service give by hand. The hash of A and B
-- is 16820, which is slice 52 and entry 4 of 16.
use Rattle.std.proofs.Common.{◌≡◌, ℕ, Bool, true, false, List, [], ◌∷◌, Option, Some, None, refl, codes, map, replicate}
use Rattle.contention_mgr.specs.Manager.{Managed, Ranked, no_elements}
use Rattle.grs_base.specs.Rnl.{no_entries}
use Rattle.grs_base.specs.declared.decision.Code.TheVariants.{C00}
use Rattle.grs_base.specs.declared.look.Filter.TheVariants.{All}
use Rattle.grs_base.specs.declared.resource.Ctl.TheVariants.{E, S}
use Rattle.grs_base.specs.declared.resource.Elem.{Elem}
use Rattle.grs_base.specs.declared.resource.Res.{Res}
use Rattle.grs_base.specs.declared.resource.Res.TheVariants.{Step, System, Systems}
use Rattle.grs_base.specs.declared.resource.Ret.TheVariants.{RetNone}
use Rattle.grs_base.specs.declared.resource.Row.{Row}
use Rattle.grs_base.specs.declared.resource.SysId.{SysId}
use Rattle.grs_base.specs.declared.resource.TaskId.{TaskId}
use Rattle.grs_node.specs.Node.{NodeState, take_mail, took_mail, is_pending, prepare, star_call, may_send}
use Rattle.grs_node.specs.Star.{StarPart, fixing_none, own_step, decide_own, settle_step, begun, left_at, leave_by}
use Rattle.grs_node.specs.Star.{first_held, settle_by, send_of}
use Rattle.grs_node.specs.declared.prepared.Prepared.{Prepared}
use Rattle.grs_node.specs.declared.prepared.Prepared.TheVariants.{Call, Nothing}
use Rattle.grs_node.specs.declared.star.Need.TheVariants.{Asks, Idle}
use Rattle.grs_wire.specs.Masks.{has}
use Rattle.grs_wire.specs.declared.deck.Deck.{Deck}
use Rattle.grs_wire.specs.declared.medium.Act.{Act}
use Rattle.grs_wire.specs.declared.medium.Mail.TheVariants.{Request, Answered, Granted}
use Rattle.grs_wire.specs.declared.request.Answer.TheVariants.{Coded, Rows}
use Rattle.grs_wire.specs.declared.request.Req.{Req}
use Rattle.grs_wire.specs.declared.request.Want.{Want}
use Rattle.grs_wire.specs.declared.request.Want.TheVariants.{Enq, Deq, Look}
use Rattle.grs_wire.specs.declared.told.ToldLine.{ToldLine}
use Rattle.star_client.specs.Client.{tell_answer_ranked, after_mail}
use Rattle.task_state.specs.Replies.{tell_code, record_enq, after_code, replied, tell_line, tell_untold, tell_control}
use Rattle.task_state.specs.Replies.{tell_all, tell_new, recalled, tell_rows, goes_on_looking, tell_answer}
use Rattle.task_state.specs.View.{TasksView, new_tasks, state_of, with_state, with_phase, with_outstanding, with_record}
use Rattle.task_state.specs.View.{without_record, with_told, with_rank, with_rows, without_rows, telling}
use Rattle.task_state.specs.declared.state.Asked.{Asked}
use Rattle.task_state.specs.declared.state.Phase.{Phase}
use Rattle.task_state.specs.declared.state.Rec.{Rec}
use Rattle.task_state.specs.declared.state.TaskState.{TaskState}
use Rattle.grs_base.specs.declared.rnl.Which.TheVariants as which
use Rattle.grs_wire.specs.declared.deck.Choice.TheVariants as choices
use Rattle.grs_wire.specs.declared.medium.Act.TheVariants as acts
use Rattle.grs_wire.specs.declared.medium.Reply.TheVariants as replies
use Rattle.grs_wire.specs.declared.request.Fixed.TheVariants as fixes
use Rattle.grs_wire.specs.declared.told.ToldLine.TheVariants as told
use Rattle.grs_wire.specs.declared.told.Verb.TheVariants as verbs
use Rattle.task_state.specs.declared.state.Phase.TheVariants as phases

abbrev system : ℕ → SysId
system s = record { 0 = s }

abbrev task : ℕ → ℕ → TaskId
task s n = record { system = system s; job = 0; task = n }

abbrev res : Res
res = Systems (codes "A") (codes "B")

-- a deck of two systems with a task each, and 16 lock entries
abbrev deck : Deck
deck = record {
  star = true;
  entries = 16;
  limit = 4096;
  lists = record { incl = no_entries which.Incl; excl = no_entries which.Excl; con = no_entries which.Con };
  systems =
      map (λ name. record {
        name = name;
        desk = [];
        jobs = record { name = codes "J"; tasks = record { name = codes "T"; lines = [] } ∷ [] } ∷ [];
      })
      (codes "A" ∷ codes "B" ∷ []);
  events = [];
}

-- the tasks of system 0, and its part where of the entries it manages the fourth, in which these requests are held
abbrev tasks : TasksView
tasks = record { system = 0; tasks = new_tasks 1; told = [] }

abbrev at_fourth : Option Managed → Bool → List Req → StarPart
at_fourth o interest held = record {
  manager = record {
    system = system 0;
    entries =
        None ∷ None ∷ None ∷ None ∷ o ∷ None ∷ None ∷ None ∷ None ∷ None ∷ None ∷ None ∷ None ∷ None ∷ None ∷ None ∷ [];
  };
  gathers = replicate 16 None;
  owes = replicate 16 None;
  held = held;
  interest =
      false ∷ false ∷ false ∷ false ∷ interest ∷ false ∷ false ∷ false ∷ false ∷ false ∷ false ∷ false ∷ false ∷ false
      ∷ false ∷ false ∷ [];
}

abbrev managing : List Req → StarPart
managing held = at_fourth (Some no_elements) true held

abbrev asks : TaskId → Want → Req
asks t w = record { task = t; want = w }

abbrev enq : Want
enq = Enq res E RetNone false

abbrev deq : Want
deq = Deq res false

abbrev outstanding : Want → Option Asked
outstanding w = Some (record { req = asks (task 0 0) w; unit = None; showing = None })

-- tasks of system 0 at their first line, and a record of (A,B)
abbrev in_phase : Phase → List Rec → Option Asked → TaskState
in_phase phase recs asked = record { line = 1; phase = phase; code = 0; records = recs; outstanding = asked; rows = [] }

abbrev of_system : List TaskState → TasksView
of_system xs = record { system = 0; tasks = xs; told = [] }

abbrev one : Phase → List Rec → Option Asked → TasksView
one phase recs asked = of_system (in_phase phase recs asked ∷ [])

abbrev rec_told : Bool → Rec
rec_told told = record { res = res; ctl = E; rank = 2; told = told; unit = None; line = 1 }

-- an element of (A,B), and the part of system 0 with these elements, of which the next gets rank 3
abbrev item : TaskId → ℕ → Bool → Ranked
item t rank untold = record { res = res; elem = record { task = t; ctl = E }; rank = rank; untold = untold }

abbrev listing : List Ranked → List Req → StarPart
listing xs held = at_fourth (Some (record { next = 3; items = xs })) true held

-- ---- requests of others
held : take_mail deck 0 tasks (managing []) (Request 4 (system 1) (asks (task 1 0) enq))
    ≡ fixing_none tasks (managing (asks (task 1 0) enq ∷ []))
unfolding has took_mail
held = refl

-- of another entry than that of the resource
other_entry : take_mail deck 0 tasks (managing []) (Request 5 (system 1) (asks (task 1 0) enq))
    ≡ fixing_none tasks (managing [])
unfolding took_mail
other_entry = refl

-- of an entry that there isn't
no_entry : take_mail deck 0 tasks (managing []) (Request 16 (system 1) (asks (task 1 0) enq))
    ≡ fixing_none tasks (managing [])
unfolding took_mail
no_entry = refl

-- of an entry that isn't managed
unmanaged : take_mail deck 0 tasks (at_fourth None false []) (Request 4 (system 1) (asks (task 1 0) enq))
    ≡ fixing_none tasks (at_fourth None false [])
unfolding took_mail
unmanaged = refl

-- for a resource of one system alone, and for slices that there aren't
own_resource :
    take_mail deck 0 tasks (managing [])
    (Request 4 (system 1) (asks (task 1 0) (Deq (System (system 1) (codes "A") (codes "B")) false)))
    ≡ fixing_none tasks (managing [])
unfolding took_mail
own_resource = refl

own_step_resource :
    take_mail deck 0 tasks (managing [])
    (Request 4 (system 1) (asks (task 1 0) (Deq (Step (system 1) 0 (codes "A") (codes "B")) false)))
    ≡ fixing_none tasks (managing [])
unfolding took_mail
own_step_resource = refl

no_slices : take_mail deck 0 tasks (managing []) (Request 4 (system 1) (asks (task 1 0) (Look 68 1 All)))
    ≡ fixing_none tasks (managing [])
unfolding took_mail
no_slices = refl

-- one slice of the entry may be looked at, and not two together, of which each is of an entry of its own
one_slice : take_mail deck 0 tasks (managing []) (Request 4 (system 1) (asks (task 1 0) (Look 52 1 All)))
    ≡ fixing_none tasks (managing (asks (task 1 0) (Look 52 1 All) ∷ []))
unfolding has took_mail
one_slice = refl

two_slices : take_mail deck 0 tasks (managing []) (Request 4 (system 1) (asks (task 1 0) (Look 52 2 All)))
    ≡ fixing_none tasks (managing [])
unfolding took_mail
two_slices = refl

-- ---- names outside the deck
no_task : take_mail deck 0 tasks (managing []) (Request 4 (system 1) (asks (task 1 1) enq))
    ≡ fixing_none tasks (managing [])
no_task = refl

no_system : take_mail deck 0 tasks (managing []) (Request 4 (system 2) (asks (task 1 0) enq))
    ≡ fixing_none tasks (managing [])
no_system = refl

other_job :
    take_mail deck 0 tasks (managing [])
    (Request 4 (system 1) (asks (record { system = system 1; job = 1; task = 0 }) enq))
    ≡ fixing_none tasks (managing [])
other_job = refl

-- a second task of system 0 that the deck lacks, be it that it has sent a request, or waits for control
abbrev beyond : Phase → List Rec → Option Asked → TasksView
beyond phase recs asked = of_system (in_phase phases.Ready [] None ∷ in_phase phase recs asked ∷ [])

unknown_answer :
    take_mail deck 0 (beyond phases.Sent [] (outstanding enq)) (managing []) (Answered (task 0 1) (Coded C00) 2)
    ≡ fixing_none (beyond phases.Sent [] (outstanding enq)) (managing [])
unknown_answer = refl

unknown_grant :
    take_mail deck 0 (beyond phases.HeldAnswer (rec_told false ∷ []) None) (managing []) (Granted (task 0 1) res)
    ≡ fixing_none (beyond phases.HeldAnswer (rec_told false ∷ []) None) (managing [])
unknown_grant = refl

-- A task has sent a look at slice 52, the last of its line. It is told what an answer shows where all who own or wait
-- are tasks of the deck; one whose rows name another has no effect.
abbrev looking : Option Asked
looking = Some (record {
  req = asks (task 0 0) (Look 52 1 All);
  unit = None;
  showing = Some (record { verb = verbs.Display; left = 0 });
})

abbrev owned_by : TaskId → List Row
owned_by t = record { res = res; elems = record { task = t; ctl = E } ∷ []; owners = 1 } ∷ []

own_rows :
    take_mail deck 0 (one phases.Sent [] looking) (managing []) (Answered (task 0 0) (Rows (owned_by (task 1 0))) 0)
    ≡ fixing_none
    (record (one phases.Ready [] None) {
      told = told.Shown (task 0 0) 1 verbs.Display C00 (owned_by (task 1 0)) ∷ [];
    })
    (managing [])
unfolding state_of with_state with_phase with_outstanding with_rows without_rows telling tell_rows goes_on_looking
    recalled tell_answer tell_answer_ranked after_mail took_mail
own_rows = refl

unknown_row :
    take_mail deck 0 (one phases.Sent [] looking) (managing []) (Answered (task 0 0) (Rows (owned_by (task 1 1))) 0)
    ≡ fixing_none (one phases.Sent [] looking) (managing [])
unknown_row = refl

-- also where it is one among others: two systems share (A,B), and a third, which the deck lacks, waits behind them
abbrev shared_by : Elem → Elem → Elem → List Row
shared_by x y z = record { res = res; elems = x ∷ y ∷ z ∷ []; owners = 2 } ∷ []

unknown_waiter :
    take_mail deck 0 (one phases.Sent [] looking) (managing [])
    (Answered (task 0 0)
    (Rows
    (shared_by (record { task = task 0 0; ctl = S }) (record { task = task 1 0; ctl = S })
    (record { task = task 2 0; ctl = E })))
    0)
    ≡ fixing_none (one phases.Sent [] looking) (managing [])
unknown_waiter = refl

-- nor is it told of a list in which a task of the deck stands twice
abbrev owned_twice : TaskId → List Row
owned_twice t = record {
  res = res;
  elems = record { task = t; ctl = S } ∷ record { task = t; ctl = S } ∷ [];
  owners = 2;
} ∷ []

twice_in_row :
    take_mail deck 0 (one phases.Sent [] looking) (managing []) (Answered (task 0 0) (Rows (owned_twice (task 1 0))) 0)
    ≡ fixing_none (one phases.Sent [] looking) (managing [])
unfolding state_of after_mail took_mail
twice_in_row = refl

-- ---- mail to tasks
-- an answer and control reach a task of the deck and of this system
own_answer : take_mail deck 0 (one phases.Sent [] (outstanding enq)) (managing []) (Answered (task 0 0) (Coded C00) 2)
    ≡ fixing_none
    (record (one phases.Ready (rec_told true ∷ []) None) { told = told.Coded (task 0 0) 1 0 verbs.Enq C00 ∷ [] })
    (managing [])
unfolding state_of with_state with_phase with_outstanding with_record with_rank telling tell_code record_enq after_code
    replied recalled tell_answer tell_answer_ranked after_mail took_mail
own_answer = refl

own_grant : take_mail deck 0 (one phases.HeldAnswer (rec_told false ∷ []) None) (managing []) (Granted (task 0 0) res)
    ≡ fixing_none
    (record (one phases.Ready (rec_told true ∷ []) None) { told = told.Coded (task 0 0) 1 0 verbs.Enq C00 ∷ [] })
    (managing [])
unfolding state_of with_state with_phase with_told telling tell_line tell_untold tell_control after_mail took_mail
own_grant = refl

-- not one of the deck and of another system
other_answer : take_mail deck 0 (one phases.Sent [] (outstanding enq)) (managing []) (Answered (task 1 0) (Coded C00) 2)
    ≡ fixing_none (one phases.Sent [] (outstanding enq)) (managing [])
unfolding after_mail took_mail
other_answer = refl

other_grant : take_mail deck 0 (one phases.HeldAnswer (rec_told false ∷ []) None) (managing []) (Granted (task 1 0) res)
    ≡ fixing_none (one phases.HeldAnswer (rec_told false ∷ []) None) (managing [])
unfolding tell_control after_mail took_mail
other_grant = refl

-- ---- control by a request that the manager carries out
-- A task of system 1 gives (A,B) up, and task 0 of system 0, the manager, waits behind it.
abbrev given_up : TasksView → TasksView → Type 0
given_up before after =
    settle_step before (listing (item (task 1 0) 1 false ∷ item (task 0 0) 2 false ∷ []) (asks (task 1 0) deq ∷ []))
    replies.Settled
    ≡ record {
      tasks = after;
      part = listing (item (task 0 0) 2 false ∷ []) [];
      fixed = fixes.Asked (asks (task 1 0) deq) ∷ [];
    }

-- it goes on where it waits by its answer
goes_on_by_control :
    given_up (one phases.HeldAnswer (rec_told false ∷ []) None)
    (record (one phases.Ready (rec_told true ∷ []) None) { told = told.Coded (task 0 0) 1 0 verbs.Enq C00 ∷ [] })
unfolding state_of with_state with_phase with_told telling tell_line tell_untold tell_control tell_all tell_new
goes_on_by_control = refl

-- it is told nothing where it has no record of (A,B), where it was told, and where it is about to give (A,B) up
without_record_of_it : given_up (one phases.Ready [] None) (one phases.Ready [] None)
unfolding state_of tell_untold tell_control tell_all tell_new
without_record_of_it = refl

told_before : given_up (one phases.Ready (rec_told true ∷ []) None) (one phases.Ready (rec_told true ∷ []) None)
unfolding state_of tell_untold tell_control tell_all tell_new
told_before = refl

about_to_leave :
    given_up (one phases.ToSend (rec_told false ∷ []) (outstanding deq))
    (one phases.ToSend (rec_told true ∷ []) (outstanding deq))
unfolding state_of with_state with_told tell_untold tell_control tell_all tell_new
about_to_leave = refl

-- A task of the manager's own system gives (A,B) up, and the next task of that system waits behind it: the answer is
-- told first.
abbrev gives_up_own : TaskState → TasksView → Type 0
gives_up_own second after =
    own_step (of_system (in_phase phases.ToSend (rec_told true ∷ []) (outstanding deq) ∷ second ∷ []))
    (listing (item (task 0 0) 1 false ∷ item (task 0 1) 2 false ∷ []) []) (task 0 0) (outstanding deq)
    ≡ record {
      tasks = after;
      part = listing (item (task 0 1) 2 false ∷ []) [];
      fixed = fixes.Asked (asks (task 0 0) deq) ∷ [];
    }

abbrev answered_with : TaskState → List ToldLine → TasksView
answered_with second lines =
    record (of_system (in_phase phases.Ready [] None ∷ second ∷ []))
    { told = told.Coded (task 0 0) 1 0 verbs.Deq C00 ∷ lines }

own_goes_on :
    gives_up_own (in_phase phases.HeldAnswer (rec_told false ∷ []) None)
    (answered_with (in_phase phases.Ready (rec_told true ∷ []) None) (told.Coded (task 0 1) 1 0 verbs.Enq C00 ∷ []))
unfolding state_of with_state with_phase with_outstanding without_record with_told with_rank telling tell_code
    after_code replied recalled tell_answer tell_answer_ranked tell_line tell_untold tell_control tell_all tell_new
    decide_own
own_goes_on = refl

own_without_record : gives_up_own (in_phase phases.Ready [] None) (answered_with (in_phase phases.Ready [] None) [])
unfolding state_of with_state with_phase with_outstanding without_record with_rank telling tell_code after_code replied
    recalled tell_answer tell_answer_ranked tell_untold tell_control tell_all tell_new decide_own
own_without_record = refl

own_told_before :
    gives_up_own (in_phase phases.Ready (rec_told true ∷ []) None)
    (answered_with (in_phase phases.Ready (rec_told true ∷ []) None) [])
unfolding state_of with_state with_phase with_outstanding without_record with_rank telling tell_code after_code replied
    recalled tell_answer tell_answer_ranked tell_untold tell_control tell_all tell_new decide_own
own_told_before = refl

-- ---- what is asked of the medium
-- a held request is answered to its task's system, with the rank that it gives
settles : settle_by (managing (asks (task 1 0) enq ∷ [])) (first_held (managing (asks (task 1 0) enq ∷ [])))
    ≡ Asks (acts.Settle (system 1) (Answered (task 1 0) (Coded C00) 1))
settles = refl

-- a request is sent, also by who manages its entry
sends_own : send_of (managing []) (task 0 0) (outstanding enq) ≡ Asks (acts.Submit 4 (asks (task 0 0) enq))
sends_own = refl

sends : send_of (at_fourth None false []) (task 0 0) (outstanding enq) ≡ Asks (acts.Submit 4 (asks (task 0 0) enq))
sends = refl

-- ---- which entry may be left
leaves : leave_by (managing []) tasks 4 ≡ Asks (acts.Leave 4)
unfolding state_of
leaves = refl

-- none without interest, none in which a request is held, none with a record or an outstanding request
no_interest_there : leave_by (managing []) tasks 5 ≡ Idle
no_interest_there = refl

while_held : leave_by (managing (asks (task 1 0) enq ∷ [])) tasks 4 ≡ Idle
while_held = refl

while_on_record : leave_by (at_fourth None true []) (one phases.Sent (rec_told true ∷ []) None) 4 ≡ Idle
while_on_record = refl

while_outstanding : leave_by (at_fourth None true []) (one phases.Sent [] (outstanding enq)) 4 ≡ Idle
while_outstanding = refl

-- with it go the lists
left : left_at (managing []) 4 ≡ at_fourth None false []
left = refl

begins : begun (at_fourth None false []) 4 ≡ managing []
begins = refl

-- who manages an entry keeps its lists
goes_on_managing :
    begun (listing (item (task 1 0) 1 true ∷ []) []) 4 ≡ listing (item (task 1 0) 1 true ∷ []) []
goes_on_managing = refl

-- ---- what a choice comes to
abbrev node : TasksView → Option StarPart → NodeState
node v o = record { tasks = v; own = []; shared = []; outbox = []; star = o; known = 0; done = 0 }

abbrev ready_to_send : TasksView
ready_to_send = one phases.ToSend [] (outstanding enq)

abbrev calls : Act → Prepared
calls act = Call (record { known = 0; act = act })

-- the request of a task is sent, also by who manages its entry
submits_own : prepare deck (node ready_to_send (Some (managing []))) (choices.Send (task 0 0))
    ≡ calls (acts.Submit 4 (asks (task 0 0) enq))
unfolding state_of may_send star_call prepare
submits_own = refl

submits : prepare deck (node ready_to_send (Some (at_fourth None false []))) (choices.Send (task 0 0))
    ≡ calls (acts.Submit 4 (asks (task 0 0) enq))
unfolding state_of may_send star_call prepare
submits = refl

-- nothing is sent in another phase, nor of a task of another system, or of none
not_sent_again :
    (prepare deck (node (one phases.Sent [] (outstanding enq)) (Some (managing []))) (choices.Send (task 0 0))
    ≡ Nothing)
    × (prepare deck (node (one phases.Ready [] (outstanding enq)) (Some (managing []))) (choices.Send (task 0 0))
    ≡ Nothing)
    × (prepare deck (node (one phases.HeldAnswer [] (outstanding enq)) (Some (managing []))) (choices.Send (task 0 0))
    ≡ Nothing)
    × (prepare deck (node (one (phases.HeldLine res) [] (outstanding enq)) (Some (managing [])))
    (choices.Send (task 0 0))
    ≡ Nothing)
    × (prepare deck (node (one (phases.Ending 0) [] (outstanding enq)) (Some (managing []))) (choices.Send (task 0 0))
    ≡ Nothing)
    × (prepare deck (node (one phases.Ended [] (outstanding enq)) (Some (managing []))) (choices.Send (task 0 0))
    ≡ Nothing)
unfolding state_of may_send star_call prepare
not_sent_again = (refl, refl, refl, refl, refl, refl)

not_sent_elsewhere : (prepare deck (node ready_to_send (Some (managing []))) (choices.Send (task 1 0)) ≡ Nothing)
    × (prepare deck (node (beyond phases.ToSend [] (outstanding enq)) (Some (managing []))) (choices.Send (task 0 1))
    ≡ Nothing)
unfolding state_of may_send star_call prepare
not_sent_elsewhere = (refl, refl)

-- mail may always be taken; a request is settled where one is held, and an owner told where one is to be
takes : prepare deck (node ready_to_send (Some (managing []))) choices.Take ≡ calls acts.Take
unfolding star_call prepare
takes = refl

settles_none : prepare deck (node ready_to_send (Some (managing []))) choices.Settle ≡ Nothing
unfolding star_call prepare
settles_none = refl

tells : prepare deck (node ready_to_send (Some (listing (item (task 1 0) 1 true ∷ []) []))) (choices.Tell 4)
    ≡ calls (acts.Tell (system 1) (Granted (task 1 0) res))
unfolding star_call prepare
tells = refl

tells_none :
    (prepare deck (node ready_to_send (Some (listing (item (task 1 0) 1 true ∷ []) []))) (choices.Tell 5) ≡ Nothing)
    × (prepare deck (node ready_to_send (Some (listing (item (task 1 0) 1 false ∷ []) []))) (choices.Tell 4) ≡ Nothing)
    × (prepare deck (node ready_to_send (Some (listing (item (task 0 0) 1 true ∷ []) []))) (choices.Tell 4) ≡ Nothing)
unfolding star_call prepare
tells_none = (refl, refl, refl)

-- a system in star mode takes no turn, and a system in the ring does nothing of star mode
no_turn : prepare deck (node ready_to_send (Some (managing []))) choices.Turn ≡ Nothing
unfolding prepare
no_turn = refl

not_in_a_ring : (prepare deck (node ready_to_send None) (choices.Send (task 0 0)) ≡ Nothing)
    × (prepare deck (node ready_to_send None) choices.Take ≡ Nothing)
    × (prepare deck (node ready_to_send None) choices.Settle ≡ Nothing)
    × (prepare deck (node ready_to_send None) (choices.Tell 4) ≡ Nothing)
    × (prepare deck (node ready_to_send None) (choices.Part 4) ≡ Nothing)
    × (prepare deck (node ready_to_send None) (choices.Leave 4) ≡ Nothing)
unfolding star_call prepare
not_in_a_ring = (refl, refl, refl, refl, refl, refl)

-- no part is sent that isn't owed
no_part : prepare deck (node ready_to_send (Some (managing []))) (choices.Part 4) ≡ Nothing
unfolding star_call prepare
no_part = refl

-- ---- what is pending in star mode: then a system doesn't rest
abbrev done : TasksView
done = one phases.Ended [] None

rests : prepare deck (node done (Some (managing []))) choices.Rest ≡ calls acts.Rest
unfolding is_pending prepare
rests = refl

-- a request that waits to be sent is pending, and not one that was sent
waits_to_send : prepare deck (node ready_to_send (Some (managing []))) choices.Rest ≡ Nothing
unfolding is_pending prepare
waits_to_send = refl

waits_for_answer : prepare deck (node (one phases.Sent [] (outstanding enq)) (Some (managing []))) choices.Rest
    ≡ calls acts.Rest
unfolding is_pending prepare
waits_for_answer = refl

-- a request that is held
holds_one : prepare deck (node done (Some (managing (asks (task 1 0) enq ∷ [])))) choices.Rest ≡ Nothing
unfolding is_pending prepare
holds_one = refl

-- an owner who is still to be told, where it is one of another system
has_to_tell : prepare deck (node done (Some (listing (item (task 1 0) 1 true ∷ []) []))) choices.Rest ≡ Nothing
unfolding is_pending prepare
has_to_tell = refl

told_all : prepare deck (node done (Some (listing (item (task 1 0) 1 false ∷ []) []))) choices.Rest ≡ calls acts.Rest
unfolding is_pending prepare
told_all = refl

own_owner : prepare deck (node done (Some (listing (item (task 0 0) 1 true ∷ []) []))) choices.Rest ≡ calls acts.Rest
unfolding is_pending prepare
own_owner = refl
