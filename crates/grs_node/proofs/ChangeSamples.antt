-- What a system's change to star mode comes to, on examples: each is what the rules of the service give by hand. There
-- is one lock entry.
use Rattle.std.proofs.Common.{◌≡◌, ℕ, Bool, true, false, List, [], ◌∷◌, Option, Some, None, refl, codes, map}
use Rattle.contention_mgr.specs.Manager.{Managed, Ranked}
use Rattle.grs_base.specs.Rnl.{no_entries}
use Rattle.grs_base.specs.State.{State}
use Rattle.grs_base.specs.declared.look.Filter.TheVariants.{All}
use Rattle.grs_base.specs.declared.resource.Ctl.{Ctl}
use Rattle.grs_base.specs.declared.resource.Ctl.TheVariants.{E, S}
use Rattle.grs_base.specs.declared.resource.Res.{Res}
use Rattle.grs_base.specs.declared.resource.Res.TheVariants.{Systems}
use Rattle.grs_base.specs.declared.resource.Ret.TheVariants.{RetNone}
use Rattle.grs_base.specs.declared.resource.SysId.{SysId}
use Rattle.grs_base.specs.declared.resource.TaskId.{TaskId}
use Rattle.grs_node.specs.Addressed.{is_addressed}
use Rattle.grs_node.specs.Change.{one_by_one}
use Rattle.grs_wire.specs.Replies.{is_listed}
use Rattle.grs_node.specs.Node.{NodeState, only, prepare, change_to_star, turned, put_in, all_sent, read_entries}
use Rattle.grs_node.specs.Node.{switched, desk_told, finish_call, finish_star, losing}
use Rattle.grs_node.specs.Removal.{lose_each, members_below, take_up_below}
use Rattle.grs_node.specs.Star.{StarPart}
use Rattle.grs_node.specs.declared.prepared.Prepared.TheVariants.{Call, Nothing}
use Rattle.grs_wire.specs.LockWords.{lock_word, manager}
use Rattle.grs_wire.specs.Masks.{has, with_also}
use Rattle.grs_wire.specs.declared.deck.Deck.{Deck}
use Rattle.grs_wire.specs.declared.deck.Order.{Order}
use Rattle.grs_wire.specs.declared.request.Req.{Req}
use Rattle.grs_wire.specs.declared.request.Want.{Want}
use Rattle.grs_wire.specs.declared.request.Want.TheVariants.{Enq, Look}
use Rattle.grs_wire.specs.declared.told.ToldLine.{ToldLine}
use Rattle.task_state.specs.View.{TasksView, state_of, with_state, with_outstanding, with_rank, telling}
use Rattle.task_state.specs.declared.state.Rec.{Rec}
use Rattle.task_state.specs.declared.state.TaskState.{TaskState}
use Rattle.grs_base.specs.declared.rnl.Which.TheVariants as which
use Rattle.grs_wire.specs.declared.deck.Choice.TheVariants as choices
use Rattle.grs_wire.specs.declared.deck.Order.TheVariants as orders
use Rattle.grs_wire.specs.declared.medium.Act.TheVariants as acts
use Rattle.grs_wire.specs.declared.medium.Reply.TheVariants as replies
use Rattle.grs_wire.specs.declared.told.Verb.TheVariants as verbs
use Rattle.grs_wire.specs.declared.told.Said.TheVariants as saids
use Rattle.grs_wire.specs.declared.told.ToldLine.TheVariants as told
use Rattle.task_state.specs.declared.state.Phase.TheVariants as phases

abbrev task : ℕ → ℕ → TaskId
task s n = record { system = record { 0 = s }; job = 0; task = n }

abbrev ab : Res
ab = Systems (codes "A") (codes "B")

abbrev ad : Res
ad = Systems (codes "A") (codes "D")

-- a ring of three systems with a task each, and this desk at each
abbrev deck : List Order → Deck
deck desk = record {
  star = false;
  entries = 1;
  limit = 4096;
  lists = record { incl = no_entries which.Incl; excl = no_entries which.Excl; con = no_entries which.Con };
  systems =
      map (λ name. record {
        name = name;
        desk = map (λ o. record { at = 0; order = o }) desk;
        jobs = record { name = codes "J"; tasks = record { name = codes "T"; lines = [] } ∷ [] } ∷ [];
      })
      (codes "A" ∷ codes "B" ∷ codes "C" ∷ []);
  events = [];
}

-- In order of arrival: system 2 owns the second resource by name, and system 0 waits for it; systems 1 and 0 share the
-- first.
abbrev table : State
table =
    (ad, record { task = task 2 0; ctl = E }) ∷ (ab, record { task = task 1 0; ctl = S })
    ∷ (ab, record { task = task 0 0; ctl = S }) ∷ (ad, record { task = task 0 0; ctl = E }) ∷ []

-- The first task of system 0 owns the one and is held by the answer for the other; the second has a request in the
-- outbox.
abbrev rec_of : Res → Ctl → Bool → ℕ → ℕ → Rec
rec_of r c told line rank = record { res = r; ctl = c; rank = rank; told = told; unit = None; line = line }

abbrev waiting : ℕ → ℕ → TaskState
waiting first second = record {
  line = 2;
  phase = phases.HeldAnswer;
  code = 0;
  records = rec_of ab S true 1 first ∷ rec_of ad E false 2 second ∷ [];
  outstanding = None;
  rows = [];
}

abbrev asks : Want → Req
asks w = record { task = task 0 1; want = w }

abbrev sending : Want → TaskState
sending w = record {
  line = 1;
  phase = phases.ToSend;
  code = 0;
  records = [];
  outstanding = Some (record { req = asks w; unit = None; showing = None });
  rows = [];
}

abbrev enq : Want
enq = Enq ab E RetNone false

abbrev tasks : ℕ → ℕ → Want → List ToldLine → TasksView
tasks first second w lines = record { system = 0; tasks = waiting first second ∷ sending w ∷ []; told = lines }

abbrev before : Want → NodeState
before w = record {
  tasks = tasks 0 0 w [];
  own = [];
  shared = table;
  outbox = asks w ∷ [];
  star = None;
  known = 0;
  done = 0;
}

-- The elements are ranked on from 1, the resource first that is shown first, each list in its own order; nobody is
-- still to be told.
abbrev item : Res → TaskId → Ctl → ℕ → Ranked
item r t c rank = record { res = r; elem = record { task = t; ctl = c }; rank = rank; untold = false }

abbrev lists : Managed
lists = record {
  next = 5;
  items = item ab (task 1 0) S 1 ∷ item ab (task 0 0) S 2 ∷ item ad (task 2 0) E 3 ∷ item ad (task 0 0) E 4 ∷ [];
}

abbrev part : SysId → Option Managed → StarPart
part s o = record {
  manager = record { system = s; entries = o ∷ [] };
  gathers = None ∷ [];
  owes = None ∷ [];
  held = [];
  interest = true ∷ [];
}

abbrev after : List ToldLine → ℕ → NodeState
after lines done = record {
  tasks = tasks 2 4 enq lines;
  own = [];
  shared = [];
  outbox = [];
  star = Some (part (record { 0 = 0 }) (Some lists));
  known = 0;
  done = done;
}

-- System 0 is the least with an element, so it manages the entry. The request stays with its task, which is to send it.
changed : change_to_star (deck []) (before enq) ≡ after [] 0
unfolding change_to_star with_rank with_state state_of
changed = refl

-- a system that has elements and isn't the least has interest, and manages nothing
abbrev of_second : Option StarPart → State → NodeState
of_second p t = record {
  tasks = record { system = 1; tasks = []; told = [] };
  own = [];
  shared = t;
  outbox = [];
  star = p;
  known = 0;
  done = 0;
}

second : change_to_star (deck []) (of_second None table) ≡ of_second (Some (part (record { 0 = 1 }) None)) []
unfolding change_to_star with_rank with_state state_of
second = refl

-- of several looks the first waits to be sent, and the others are left behind it
abbrev looking : ℕ → ℕ → TasksView
looking count left = record {
  system = 0;
  tasks =
      waiting 0 0
      ∷ record (sending (Look 5 count All)) {
        outstanding =
            Some (record {
              req = asks (Look 5 count All);
              unit = None;
              showing = Some (record { verb = verbs.Display; left = left });
            });
      }
      ∷ [];
  told = [];
}

looks : one_by_one (looking 3 0) (asks (Look 5 3 All) ∷ []) ≡ looking 1 2
unfolding with_outstanding with_state state_of
looks = refl

-- ---- the command at the desk
-- the words are those of the table: all three have interest, and system 0 manages
ordered : prepare (deck (orders.Star ∷ [])) (before enq) choices.Switch
    ≡ Call (record { known = 0; act = acts.Switch (263 ∷ []) })
unfolding prepare lock_word with_also
ordered = refl

addressed : is_addressed (deck (orders.Star ∷ [])) 0 (prepare (deck (orders.Star ∷ [])) (before enq) choices.Switch)
    ≡ true
unfolding prepare lock_word manager has with_also
addressed = refl

-- in star mode there are none
in_star : prepare (deck (orders.Star ∷ orders.Star ∷ [])) (after [] 1) choices.Switch
    ≡ Call (record { known = 0; act = acts.Switch (0 ∷ []) })
unfolding prepare
in_star = refl

-- nothing is ordered, all is done, or a removal is ordered first
no_order : prepare (deck []) (before enq) choices.Switch ≡ Nothing
unfolding prepare
no_order = refl

all_done : prepare (deck (orders.Star ∷ [])) (after [] 1) choices.Switch ≡ Nothing
unfolding prepare
all_done = refl

removal_first : prepare (deck (orders.Vary (record { 0 = 1 }) ∷ orders.Star ∷ [])) (before enq) choices.Switch ≡ Nothing
unfolding prepare
removal_first = refl

-- ---- what comes of it
done : finish_call (deck (orders.Star ∷ [])) (before enq) choices.Switch replies.Switched
    ≡ only (after (told.Desk 1 saids.StarDone ∷ []) 1)
unfolding finish_call switched desk_told telling change_to_star with_rank with_state state_of has losing lose_each
    members_below take_up_below
done = refl

-- the complex was in star mode: the system changes at its next Turn
already : finish_call (deck (orders.Star ∷ [])) (before enq) choices.Switch replies.Already
    ≡ only (record (before enq) { tasks = tasks 0 0 enq (told.Desk 1 saids.StarAlready ∷ []); done = 1 })
unfolding finish_call desk_told telling
already = refl

-- the system hasn't processed all yet, and tries again
behind : finish_call (deck (orders.Star ∷ [])) (before enq) choices.Switch (replies.Behind 3) ≡ only (before enq)
unfolding finish_call finish_star
behind = refl

-- a system that is in star mode isn't changed again
changed_before : finish_call (deck (orders.Star ∷ orders.Star ∷ [])) (after [] 1) choices.Switch replies.Switched
    ≡ only (after [] 1)
unfolding finish_call switched
changed_before = refl

-- ---- a Turn at the message
closed : turned (deck []) (before enq) [] 0 true ≡ only (after [] 0)
unfolding turned put_in all_sent read_entries change_to_star with_rank with_state state_of has losing lose_each
    members_below take_up_below
closed = refl

open_message : turned (deck []) (before enq) [] 0 false ≡ only (before enq)
unfolding turned put_in all_sent read_entries
open_message = refl

-- such replies are those of a Switch
listed : (is_listed (acts.Switch []) replies.Switched ≡ true) × (is_listed (acts.Switch []) replies.Already ≡ true)
    × (is_listed (acts.Switch []) (replies.Behind 1) ≡ true) × (is_listed acts.Rest replies.Already ≡ false)
listed = (refl, refl, refl, refl)
