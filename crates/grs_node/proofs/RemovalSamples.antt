-- What a system does where another one is removed in star mode, on examples: each is what the rules of the service give
-- by hand. There are three systems and one lock entry, that of (P,Q); at the end four systems and two lock entries.
use Rattle.std.proofs.Common.{◌≡◌, ◌+◌, ℕ, Bool, true, false, List, [], ◌∷◌, Option, Some, None, refl, codes}
use Rattle.contention_mgr.specs.Manager.{Managed, Ranked}
use Rattle.grs_base.specs.Limits.{last_number}
use Rattle.grs_base.specs.declared.decision.Code.TheVariants.{C00}
use Rattle.grs_base.specs.Rnl.{no_entries}
use Rattle.grs_base.specs.State.{State}
use Rattle.grs_base.specs.declared.resource.Ctl.{Ctl}
use Rattle.grs_base.specs.declared.resource.Ctl.TheVariants.{E, S}
use Rattle.grs_base.specs.declared.resource.Res.{Res}
use Rattle.grs_base.specs.declared.resource.Res.TheVariants.{Systems}
use Rattle.grs_base.specs.declared.resource.Ret.TheVariants.{RetNone}
use Rattle.grs_base.specs.declared.resource.SysId.{SysId}
use Rattle.grs_base.specs.declared.resource.TaskId.{TaskId}
use Rattle.grs_node.specs.Node.{NodeState, prepare, star_call, may_send, is_pending, finish_call, stale, purged, losing}
use Rattle.grs_node.specs.Node.{desk_told, take_mail, took_mail, changed, change_to_star, only}
use Rattle.grs_node.specs.Removal.{take_up_below, move_each, lose_each, members_below}
use Rattle.grs_node.specs.Star.{StarPart, fixing_none, send_of, first_held, settle_by, settle_step, part_step, to_tell}
use Rattle.grs_node.specs.Star.{leave_by}
use Rattle.grs_node.specs.declared.prepared.Prepared.TheVariants.{Call, Nothing}
use Rattle.grs_node.specs.declared.star.Need.TheVariants.{Asks, Idle}
use Rattle.grs_wire.specs.Masks.{has, without, with_also}
use Rattle.grs_wire.specs.declared.deck.Deck.{Deck}
use Rattle.grs_wire.specs.declared.deck.SystemDef.{SystemDef}
use Rattle.grs_wire.specs.declared.deck.TaskDef.{TaskDef}
use Rattle.grs_wire.specs.declared.gather.Moved.{Moved}
use Rattle.grs_wire.specs.declared.gather.PartRec.{PartRec}
use Rattle.grs_wire.specs.declared.medium.Mail.{Mail}
use Rattle.grs_wire.specs.declared.medium.Mail.TheVariants.{Request, Answered, Notice, Part}
use Rattle.grs_wire.specs.declared.request.Answer.TheVariants.{Coded}
use Rattle.grs_wire.specs.declared.request.Req.{Req}
use Rattle.grs_wire.specs.declared.request.Want.{Want}
use Rattle.grs_wire.specs.declared.request.Want.TheVariants.{Enq}
use Rattle.grs_wire.specs.declared.told.ToldLine.{ToldLine}
use Rattle.system_purge.specs.Purge.{tell_each}
use Rattle.system_purge.specs.declared.gathers.Gathering.{Gathering}
use Rattle.system_purge.specs.declared.gathers.SentPart.{SentPart}
use Rattle.task_state.specs.Replies.{tell_line, tell_untold, tell_control, tell_all, tell_new}
use Rattle.task_state.specs.View.{TasksView, state_of, with_state, with_phase, with_told, with_rank, telling}
use Rattle.task_state.specs.declared.state.Asked.{Asked}
use Rattle.task_state.specs.declared.state.Phase.{Phase}
use Rattle.task_state.specs.declared.state.Rec.{Rec}
use Rattle.task_state.specs.declared.state.TaskState.{TaskState}
use Rattle.grs_base.specs.declared.rnl.Which.TheVariants as which
use Rattle.grs_wire.specs.declared.deck.Choice.TheVariants as choices
use Rattle.grs_wire.specs.declared.medium.Act.TheVariants as acts
use Rattle.grs_wire.specs.declared.medium.Reply.TheVariants as replies
use Rattle.grs_wire.specs.declared.request.Fixed.TheVariants as fixes
use Rattle.grs_wire.specs.declared.told.Said.TheVariants as saids
use Rattle.grs_wire.specs.declared.told.ToldLine.TheVariants as told
use Rattle.grs_wire.specs.declared.told.Verb.TheVariants as verbs
use Rattle.task_state.specs.declared.state.Phase.TheVariants as phases

abbrev sys : ℕ → SysId
sys s = record { 0 = s }

abbrev task : ℕ → ℕ → TaskId
task s n = record { system = sys s; job = 0; task = n }

abbrev pq : Res
pq = Systems (codes "P") (codes "Q")

-- a deck of three systems with two tasks each
abbrev no_lines : ℕ → TaskDef
no_lines n = record { name = n ∷ []; lines = [] }

abbrev named : ℕ → SystemDef
named n = record {
  name = n ∷ [];
  desk = [];
  jobs = record { name = codes "J"; tasks = no_lines 49 ∷ no_lines 50 ∷ [] } ∷ [];
}

abbrev deck : Deck
deck = record {
  star = true;
  entries = 1;
  limit = 4096;
  lists = record { incl = no_entries which.Incl; excl = no_entries which.Excl; con = no_entries which.Con };
  systems = named 65 ∷ named 66 ∷ named 67 ∷ [];
  events = [];
}

-- ---- tasks and parts of systems
abbrev rec_on : Res → Ctl → ℕ → Bool → Rec
rec_on r c rank told = record { res = r; ctl = c; rank = rank; told = told; unit = None; line = 1 }

abbrev rec_of : Ctl → ℕ → Bool → Rec
rec_of c rank told = rec_on pq c rank told

abbrev in_phase : Phase → List Rec → Option Asked → TaskState
in_phase phase recs asked = record { line = 1; phase = phase; code = 0; records = recs; outstanding = asked; rows = [] }

abbrev idle : TaskState
idle = in_phase phases.Ended [] None

abbrev tasks_of : ℕ → TaskState → TaskState → List ToldLine → TasksView
tasks_of s first second lines = record { system = s; tasks = first ∷ second ∷ []; told = lines }

abbrev enq_on : Res → Ctl → Want
enq_on r c = Enq r c RetNone false

abbrev enq : Ctl → Want
enq c = enq_on pq c

abbrev asks : TaskId → Want → Req
asks t w = record { task = t; want = w }

abbrev outstanding : TaskId → Want → Option Asked
outstanding t w = Some (record { req = asks t w; unit = None; showing = None })

abbrev part_with : ℕ → Option Managed → Option Gathering → Option SysId → List Req → StarPart
part_with s kept gathering owes held = record {
  manager = record { system = sys s; entries = kept ∷ [] };
  gathers = gathering ∷ [];
  owes = owes ∷ [];
  held = held;
  interest = true ∷ [];
}

abbrev user : ℕ → StarPart
user s = part_with s None None None []

abbrev awaiting : ℕ → List SentPart → Option Gathering
awaiting systems parts = Some (record { awaits = systems; parts = parts })

abbrev gathering : ℕ → ℕ → List SentPart → List Req → StarPart
gathering s systems parts held = part_with s None (awaiting systems parts) None held

abbrev owing : ℕ → ℕ → StarPart
owing s to = part_with s None None (Some (sys to)) []

abbrev item_on : Res → TaskId → Ctl → ℕ → Bool → Ranked
item_on r t c rank untold = record { res = r; elem = record { task = t; ctl = c }; rank = rank; untold = untold }

abbrev item : TaskId → Ctl → ℕ → Bool → Ranked
item t c rank untold = item_on pq t c rank untold

abbrev managing : ℕ → ℕ → List Ranked → List Req → StarPart
managing s next items held = part_with s (Some (record { next = next; items = items })) None None held

abbrev part_rec_on : Res → TaskId → Ctl → ℕ → Bool → PartRec
part_rec_on r t c rank told = record { res = r; task = t; ctl = c; rank = rank; told = told }

abbrev part_rec : TaskId → Ctl → ℕ → Bool → PartRec
part_rec t c rank told = part_rec_on pq t c rank told

-- the system removed was A; the entry's new manager, and who has interest in it
abbrev moved : ℕ → ℕ → ℕ → Moved
moved to mask epoch = record { entry = 0; manager = sys to; mask = mask; epoch = epoch }

abbrev notice : ℕ → Moved → Mail
notice gone m = Notice (sys gone) (m ∷ [])

abbrev node : TasksView → StarPart → ℕ → NodeState
node v p known = record { tasks = v; own = []; shared = []; outbox = []; star = Some p; known = known; done = 0 }

abbrev told_enq : ℕ → ToldLine
told_enq s = told.Coded (task s 0) 1 0 verbs.Enq C00

-- ---- a manager is removed, of whom A's task owned, and those of C and B wait, in this order
-- C's second task has sent a request that A didn't answer
abbrev of_b : TasksView
of_b = tasks_of 1 (in_phase phases.HeldAnswer (rec_of E 3 false ∷ []) None) idle []

abbrev of_c : Phase → TasksView
of_c second =
    tasks_of 2 (in_phase phases.HeldAnswer (rec_of E 2 false ∷ []) None)
    (in_phase second [] (outstanding (task 2 1) (enq S))) []

-- B gathers the entry, and awaits C's part
named_manager : take_mail deck 1 of_b (user 1) (notice 0 (moved 1 6 1)) ≡ fixing_none of_b (gathering 1 4 [] [])
unfolding state_of has without move_each take_up_below took_mail
named_manager = refl

-- a request of its own that A didn't answer is to be sent again, and waits for the lists
abbrev asking_b : Phase → TasksView
asking_b second =
    tasks_of 1 (in_phase phases.HeldAnswer (rec_of E 3 false ∷ []) None)
    (in_phase second [] (outstanding (task 1 1) (enq S))) []

named_with_request : take_mail deck 1 (asking_b phases.Sent) (user 1) (notice 0 (moved 1 6 1))
    ≡ fixing_none (asking_b phases.ToSend) (gathering 1 4 [] [])
unfolding state_of has without move_each take_up_below took_mail
named_with_request = refl

own_waits : prepare deck (node (asking_b phases.ToSend) (gathering 1 4 [] []) 1) (choices.Send (task 1 1)) ≡ Nothing
unfolding state_of may_send star_call prepare
own_waits = refl

-- C owes it, and is to send its request again
other_manager : take_mail deck 1 (of_c phases.Sent) (user 2) (notice 0 (moved 1 6 1))
    ≡ fixing_none (of_c phases.ToSend) (owing 2 1)
unfolding state_of with_state with_phase has without move_each take_up_below took_mail
other_manager = refl

-- what C has on record goes to B, and isn't owed any more; nothing goes to a manager that is known to be removed
abbrev of_task_c : PartRec
of_task_c = part_rec (task 2 0) E 2 false

sends_part : prepare deck (node (of_c phases.ToSend) (owing 2 1) 1) (choices.Part 0)
    ≡ Call (record { known = 1; act = acts.Tell (sys 1) (Part 0 (sys 2) (of_task_c ∷ [])) })
unfolding has star_call prepare
sends_part = refl

sent_part : part_step (of_c phases.ToSend) (owing 2 1) 0 replies.Told ≡ fixing_none (of_c phases.ToSend) (user 2)
sent_part = refl

part_to_removed : prepare deck (node (of_c phases.ToSend) (owing 2 1) 3) (choices.Part 0) ≡ Nothing
unfolding has star_call prepare
part_to_removed = refl

-- With it B has the whole list, and manages the entry: C's task owns and is still to be told, and B's own task waits.
taken_up : take_mail deck 1 of_b (gathering 1 4 [] []) (Part 0 (sys 2) (of_task_c ∷ []))
    ≡ fixing_none of_b (managing 1 4 (item (task 2 0) E 2 true ∷ item (task 1 0) E 3 false ∷ []) [])
unfolding has without tell_each take_up_below took_mail tell_control
taken_up = refl

tells_next :
    to_tell (managing 1 4 (item (task 2 0) E 2 true ∷ item (task 1 0) E 3 false ∷ []) []) 0 ≡ Some (task 2 0, pq)
tells_next = refl

-- ---- meanwhile
-- nothing is sent, settled or told of the entry, none leaves it, and nobody rests
abbrev held_by_b : StarPart
held_by_b = gathering 1 4 [] (asks (task 2 1) (enq S) ∷ [])

waits_to_send : send_of held_by_b (task 1 1) (outstanding (task 1 1) (enq S)) ≡ Idle
waits_to_send = refl

holds_request :
    take_mail deck 1 of_b (gathering 1 4 [] []) (Request 0 (sys 2) (asks (task 2 1) (enq S)))
    ≡ fixing_none of_b held_by_b
unfolding has took_mail
holds_request = refl

settles_later : first_held held_by_b ≡ None
settles_later = refl

stays_interested : leave_by (gathering 1 4 [] []) (tasks_of 1 idle idle []) 0 ≡ Idle
stays_interested = refl

stays_in_debt : leave_by (owing 2 1) (tasks_of 2 idle idle []) 0 ≡ Idle
stays_in_debt = refl

gathers_on : prepare deck (node (tasks_of 1 idle idle []) (gathering 1 4 [] []) 1) choices.Rest ≡ Nothing
unfolding is_pending prepare
gathers_on = refl

owes_still : prepare deck (node (tasks_of 2 idle idle []) (owing 2 1) 1) choices.Rest ≡ Nothing
unfolding is_pending prepare
owes_still = refl

-- a request of a system that is known to be removed is dropped
dropped : take_mail deck 1 of_b (gathering 1 4 [] []) (Request 0 (sys 0) (asks (task 0 1) (enq S)))
    ≡ fixing_none of_b (gathering 1 4 [] [])
unfolding has took_mail
dropped = refl

-- and so is a part of one, though it is awaited
part_dropped : take_mail deck 5 of_b (gathering 1 4 [] []) (Part 0 (sys 2) (of_task_c ∷ []))
    ≡ fixing_none of_b (gathering 1 4 [] [])
unfolding has took_mail
part_dropped = refl

-- ---- two managers are removed in turn
-- A's task owned, and B's, C's and another one of C's wait; C had sent its part to B when B is removed, so that C is to
-- manage the entry, and nobody else has interest in it: it is taken up at once, and C's own tasks, which share, are
-- told.
abbrev sharing : TaskState → TaskState → List ToldLine → TasksView
sharing first second lines = tasks_of 2 first second lines

abbrev waits_for : ℕ → Bool → Phase → TaskState
waits_for rank told phase = in_phase phase (rec_of S rank told ∷ []) None

second_notice :
    take_mail deck 3
    (sharing (waits_for 3 false phases.HeldAnswer) (waits_for 2 false phases.HeldAnswer) []) (user 2)
    (notice 1 (moved 2 4 2))
    ≡ fixing_none
    (sharing (waits_for 3 true phases.Ready) (waits_for 2 true phases.Ready)
    (told.Coded (task 2 1) 1 0 verbs.Enq C00 ∷ told.Coded (task 2 0) 1 0 verbs.Enq C00 ∷ []))
    (managing 2 4 (item (task 2 1) S 2 false ∷ item (task 2 0) S 3 false ∷ []) [])
unfolding state_of with_state with_phase with_told telling has without tell_line tell_untold tell_control tell_each
    move_each take_up_below took_mail
second_notice = refl

-- What was owed to an earlier manager isn't owed any more. Where B is removed to which C owes its part, C gathers the
-- entry itself, or owes its part to A.
cancelled : take_mail deck 2 (of_c phases.ToSend) (owing 2 1) (notice 1 (moved 2 5 2))
    ≡ fixing_none (of_c phases.ToSend) (gathering 2 1 [] [])
unfolding state_of has without move_each take_up_below took_mail
cancelled = refl

owed_again : take_mail deck 2 (of_c phases.ToSend) (owing 2 1) (notice 1 (moved 0 5 2))
    ≡ fixing_none (of_c phases.ToSend) (owing 2 0)
unfolding state_of has without move_each take_up_below took_mail
owed_again = refl

-- ---- who is awaited is removed
-- B awaits C's part, which goes with C: the list is B's own, whose task owns it and is told.
abbrev b_told : List ToldLine → TasksView
b_told lines = tasks_of 1 (in_phase phases.Ready (rec_of E 3 true ∷ []) None) idle lines

lost_awaited : finish_call deck (node of_b (gathering 1 4 [] (asks (task 2 1) (enq S) ∷ [])) 1) choices.Take
    (replies.Stale 5)
    ≡ only (node (b_told (told_enq 1 ∷ [])) (managing 1 4 (item (task 1 0) E 3 false ∷ []) []) 5)
unfolding state_of with_state with_phase with_told telling has without tell_line tell_untold tell_control tell_each
    take_up_below lose_each members_below losing stale finish_call
lost_awaited = refl

-- so does a part that had come; A's is still awaited
abbrev came : ℕ → List PartRec → SentPart
came s recs = record { from = sys s; records = recs }

lost_part :
    finish_call deck
    (node of_b (gathering 1 1 (came 2 (of_task_c ∷ []) ∷ []) []) 0) choices.Take (replies.Stale 4)
    ≡ only (node of_b (gathering 1 1 [] []) 4)
unfolding has without tell_each take_up_below lose_each members_below losing stale finish_call
lost_part = refl

-- ---- a system that manages the entry loses another one
-- C's task owned, B's own shares behind it, and A's waits: who removes C is told so, and then its own task that it owns
lost_owner :
    finish_call deck
    (node (tasks_of 1 (waits_for 2 false phases.HeldAnswer) idle [])
    (managing 1 4 (item (task 2 0) E 1 false ∷ item (task 1 0) S 2 false ∷ item (task 0 0) S 3 false ∷ []) []) 0)
    (choices.Purge (sys 2)) replies.Purged
    ≡ record {
      node = record
          (node
          (tasks_of 1 (waits_for 2 true phases.Ready) idle (told.Desk 1 saids.VaryDone ∷ told_enq 1 ∷ []))
          (managing 1 4 (item (task 1 0) S 2 false ∷ item (task 0 0) S 3 true ∷ []) []) 4)
          { done = 1 };
      fixed = fixes.Purged (sys 2) ∷ [];
    }
unfolding state_of with_state with_phase with_told telling has without with_also tell_line tell_untold tell_control
    tell_each take_up_below lose_each losing desk_told purged finish_call
lost_owner = refl

-- ---- a removal while a system hasn't changed from the ring
-- By B's table C's task owns and its own waits. B knows that C is removed when it changes: it manages the entry, and
-- its task owns.
abbrev table : State
table = (pq, record { task = task 2 0; ctl = E }) ∷ (pq, record { task = task 1 0; ctl = E }) ∷ []

abbrev in_ring : NodeState
in_ring = record {
  tasks = tasks_of 1 (in_phase phases.HeldAnswer (rec_of E 0 false ∷ []) None) idle [];
  own = [];
  shared = table;
  outbox = [];
  star = None;
  known = 4;
  done = 0;
}

changed_and_lost :
    changed deck in_ring
    ≡ node (tasks_of 1 (in_phase phases.Ready (rec_of E 2 true ∷ []) None) idle (told_enq 1 ∷ []))
    (managing 1 3 (item (task 1 0) E 2 false ∷ []) []) 4
unfolding state_of with_state with_phase with_told with_rank telling has without tell_line tell_untold tell_control
    tell_each take_up_below lose_each members_below losing change_to_star
changed_and_lost = refl

-- ---- what has no effect
-- a notice of an entry that the system manages or gathers, of one that there isn't, and of systems that the deck lacks
not_news :
    (take_mail deck 1 of_b (managing 1 4 [] []) (notice 0 (moved 2 6 1)) ≡ fixing_none of_b (managing 1 4 [] []))
    × (take_mail deck 1 of_b (gathering 1 4 [] []) (notice 0 (moved 2 6 1)) ≡ fixing_none of_b (gathering 1 4 [] []))
    × (take_mail deck 1 of_b (user 1) (Notice (sys 0) (record { entry = 1; manager = sys 1; mask = 6; epoch = 1 } ∷ []))
    ≡ fixing_none of_b (user 1))
    × (take_mail deck 1 of_b (user 1) (notice 0 (moved 3 6 1)) ≡ fixing_none of_b (user 1))
    × (take_mail deck 1 of_b (user 1) (notice 0 (moved 1 8 1)) ≡ fixing_none of_b (user 1))
    × (take_mail deck 1 of_b (user 1) (notice 3 (moved 1 6 1)) ≡ fixing_none of_b (user 1))
unfolding move_each take_up_below took_mail
not_news = (refl, refl, refl, refl, refl, refl)

-- a part of an entry that isn't gathered, and one that isn't awaited
not_awaited :
    (take_mail deck 1 of_b (user 1) (Part 0 (sys 2) (of_task_c ∷ [])) ≡ fixing_none of_b (user 1))
    × (take_mail deck 0 of_b (gathering 1 1 [] []) (Part 0 (sys 2) (of_task_c ∷ []))
    ≡ fixing_none of_b (gathering 1 1 [] []))
    × (take_mail deck 0 of_b (gathering 1 1 [] []) (Part 1 (sys 0) []) ≡ fixing_none of_b (gathering 1 1 [] []))
    × (take_mail deck 0 of_b (gathering 1 1 [] []) (Part 0 (sys 3) []) ≡ fixing_none of_b (gathering 1 1 [] []))
unfolding has take_up_below took_mail
not_awaited = (refl, refl, refl, refl)

-- a record of another system's task, of a task that the deck lacks, and of a rank past the last one; of two that have
-- one rank, or are of one task, the first counts
counts_rightly :
    take_mail deck 1 of_b (gathering 1 4 [] [])
    (Part 0 (sys 2)
    (part_rec (task 0 0) E 4 false ∷ part_rec (task 2 2) E 5 false ∷ part_rec (task 2 1) E (last_number + 1) false
    ∷ of_task_c ∷ part_rec (task 2 1) S 3 false ∷ part_rec (task 2 0) S 6 true ∷ []))
    ≡ fixing_none of_b (managing 1 4 (item (task 2 0) E 2 true ∷ item (task 1 0) E 3 false ∷ []) [])
unfolding has without tell_each take_up_below took_mail tell_control
counts_rightly = refl

-- ---- two lock entries
-- There are four systems; (P,R) is of the first entry, and (P,Q) of the second.
abbrev pr : Res
pr = Systems (codes "P") (codes "R")

abbrev wide : Deck
wide = record deck { entries = 2; systems = named 65 ∷ named 66 ∷ named 67 ∷ named 68 ∷ [] }

-- B's part, with what it keeps of each entry
abbrev pair : List (Option Managed) → List (Option Gathering) → List Req → StarPart
pair kept gathering held = record {
  manager = record { system = sys 1; entries = kept };
  gathers = gathering;
  owes = None ∷ None ∷ [];
  held = held;
  interest = true ∷ true ∷ [];
}

abbrev kept_lists : ℕ → List Ranked → Option Managed
kept_lists next items = Some (record { next = next; items = items })

-- Of a part, and of what own tasks have on record, just that counts which is of the entry.
abbrev on_first : TasksView
on_first = tasks_of 1 (in_phase phases.HeldAnswer (rec_on pr E 5 false ∷ []) None) idle []

of_entry_alone :
    take_mail wide 1 on_first (pair (None ∷ None ∷ []) (None ∷ awaiting 4 [] ∷ []) [])
    (Part 1 (sys 2) (part_rec_on pr (task 2 0) E 1 true ∷ part_rec (task 2 1) E 2 true ∷ []))
    ≡ fixing_none on_first
    (pair (None ∷ kept_lists 3 (item (task 2 1) E 2 false ∷ []) ∷ []) (None ∷ None ∷ []) [])
unfolding has without tell_each take_up_below took_mail tell_control
of_entry_alone = refl

-- Of requests that are held the first is settled whose entry isn't gathered.
abbrev passing : StarPart
passing =
    pair (kept_lists 1 [] ∷ None ∷ []) (None ∷ awaiting 4 [] ∷ [])
    (asks (task 2 0) (enq S) ∷ asks (task 2 1) (enq_on pr S) ∷ [])

settles_second :
    settle_by passing (first_held passing) ≡ Asks (acts.Settle (sys 2) (Answered (task 2 1) (Coded C00) 1))
settles_second = refl

second_settled :
    settle_step of_b passing replies.Settled
    ≡ record {
      tasks = of_b;
      part = pair (kept_lists 2 (item_on pr (task 2 1) S 1 false ∷ []) ∷ None ∷ []) (None ∷ awaiting 4 [] ∷ [])
          (asks (task 2 0) (enq S) ∷ []);
      fixed = fixes.Asked (asks (task 2 1) (enq_on pr S)) ∷ [];
    }
unfolding state_of tell_untold tell_control tell_all tell_new
second_settled = refl

-- Two systems are lost before anything is taken up; of two entries the first is taken up first.
abbrev of_pair : Phase → Bool → List ToldLine → TasksView
of_pair phase told lines =
    tasks_of 1 (in_phase phase (rec_on pr E 3 told ∷ []) None) (in_phase phase (rec_of E 2 told ∷ []) None) lines

lost_two :
    finish_call wide
    (node (of_pair phases.HeldAnswer false []) (pair (None ∷ None ∷ []) (awaiting 12 [] ∷ awaiting 8 [] ∷ []) []) 1)
    choices.Take (replies.Stale 13)
    ≡ only
    (node
    (of_pair phases.Ready true
    (told.Coded (task 1 0) 1 0 verbs.Enq C00 ∷ told.Coded (task 1 1) 1 0 verbs.Enq C00 ∷ []))
    (pair
    (kept_lists 4 (item_on pr (task 1 0) E 3 false ∷ []) ∷ kept_lists 3 (item (task 1 1) E 2 false ∷ []) ∷ [])
    (None ∷ None ∷ []) [])
    13)
unfolding state_of with_state with_phase with_told telling has without tell_line tell_untold tell_control tell_each
    take_up_below lose_each members_below losing stale finish_call
lost_two = refl
