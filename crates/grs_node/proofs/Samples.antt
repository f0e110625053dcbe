-- With what a finish may come, and what entries of the message do, on examples.
use Rattle.std.proofs.Common.{◌≡◌, ℕ, true, false, [], ◌∷◌, None, refl, codes, map}
use Rattle.grs_base.specs.Rnl.{no_entries}
use Rattle.grs_base.specs.State.{State}
use Rattle.grs_base.specs.declared.resource.Ctl.TheVariants.{E}
use Rattle.grs_base.specs.declared.resource.Res.TheVariants.{Systems}
use Rattle.grs_base.specs.declared.resource.Ret.TheVariants.{RetNone}
use Rattle.grs_base.specs.declared.rnl.Which.TheVariants as which
use Rattle.grs_wire.specs.declared.deck.Choice.TheVariants as choices
use Rattle.grs_wire.specs.declared.deck.Deck.{Deck}
use Rattle.grs_wire.specs.declared.medium.RingBody.{RingBody}
use Rattle.grs_wire.specs.declared.request.Want.TheVariants.{Enq}
use Rattle.grs_node.specs.Node.{NodeState, Step, finish_call, losing, only, read_entry, stale}
use Rattle.ring_mode.specs.Ring.{answer_own, process, process_entry}
use Rattle.task_state.specs.Replies.{tell_all, tell_new}
use Rattle.system_purge.specs.Purge.{tell_freed}
use Rattle.task_state.specs.View.{new_tasks}
use Rattle.grs_wire.specs.Masks.{has}
use Rattle.grs_wire.specs.declared.medium.Act.TheVariants as acts
use Rattle.grs_wire.specs.declared.medium.Reply.TheVariants as replies
use Rattle.grs_wire.specs.declared.medium.RingBody.TheVariants as bodies
use Rattle.grs_wire.specs.declared.medium.RingEntry.{RingEntry}
use Rattle.grs_wire.specs.Unseen.{unseen}
use Rattle.grs_node.specs.Finish.{may_come}
use Rattle.grs_wire.specs.Replies.{is_listed, leaves_all}
use Rattle.grs_node.specs.declared.prepared.Prepared.TheVariants.{Quiet, Call}

-- a Turn may be answered by where the message stands, and not by what a Rest is answered
elsewhere : is_listed (acts.Turn []) (replies.NotYours None) ≡ true
elsewhere = refl

resting : is_listed (acts.Turn []) replies.Resting ≡ false
resting = refl

-- no more is put in than the Turn was to put in
more : is_listed (acts.Turn []) (replies.Turned [] 1 false) ≡ false
more = refl

-- a choice that is done without a call has no reply
silent : may_come Quiet replies.Removed ≡ false
silent = refl

-- a Rest of a system that knows nothing of a removal
unknowing : may_come (Call (record { known = 0; act = acts.Rest })) (replies.Stale 2) ≡ true
unknowing = refl

-- a Turn that gave and put in nothing leaves all as it is, unless the message is closed
nothing : leaves_all (replies.Turned [] 0 false) ≡ true
nothing = refl

closed : leaves_all (replies.Turned [] 0 true) ≡ false
closed = refl

put : leaves_all (replies.Turned [] 1 false) ≡ false
put = refl

learned : leaves_all (replies.Stale 2) ≡ false
learned = refl

-- A Submit or a Leave may be answered that a notice of its lock entry is in the inbox, and that leaves all as it is.
noticed : (is_listed (acts.Leave 4) replies.Yours ≡ true) × (is_listed (acts.Leave 4) replies.Old ≡ true)
    × (is_listed acts.Take replies.Yours ≡ false) × (leaves_all replies.Yours ≡ true) × (leaves_all replies.Old ≡ true)
noticed = (refl, refl, refl, refl, refl)

-- an entry by which system 0 removes system 1
abbrev removal : RingEntry
removal = record { number = 1; from = record { 0 = 0 }; body = bodies.Remove (record { 0 = 1 }); mask = 5 }

given : leaves_all (replies.Turned (removal ∷ []) 0 false) ≡ false
given = refl

-- systems 0 and 2 have yet to process it, and read it at their Turns
read : unseen (record { 0 = 2 }) (removal ∷ []) ≡ removal ∷ []
unfolding unseen has
read = refl

passed : unseen (record { 0 = 1 }) (removal ∷ []) ≡ []
unfolding unseen has
passed = refl

-- ---- entries of tasks that the deck lacks
-- a ring of two systems with a task each, and the first of them
abbrev deck : Deck
deck = record {
  star = false;
  entries = 16;
  limit = 4096;
  lists = record { incl = no_entries which.Incl; excl = no_entries which.Excl; con = no_entries which.Con };
  systems =
      map (λ name. record {
        name = name;
        desk = [];
        jobs = record { name = codes "J"; tasks = record { name = codes "T"; lines = [] } ∷ [] } ∷ [];
      })
      (codes "A" ∷ codes "B" ∷ []);
  events = [];
}

abbrev node : NodeState
node = record {
  tasks = record { system = 0; tasks = new_tasks 1; told = [] };
  own = [];
  shared = [];
  outbox = [];
  star = None;
  known = 0;
  done = 0;
}

-- an entry by which a task of the second system asks for (A,B), and its element in the table
abbrev entry_of : ℕ → ℕ → ℕ → RingBody
entry_of s job n =
    bodies.Request (record {
      task = record { system = record { 0 = s }; job = job; task = n };
      want = Enq (Systems (codes "A") (codes "B")) E RetNone false;
    })

abbrev asked_first : State
asked_first = (
  Systems (codes "A") (codes "B"),
  record { task = record { system = record { 0 = 1 }; job = 0; task = 0 }; ctl = E },
)
    ∷ []

of_the_deck : read_entry deck node (entry_of 1 0 0) ≡ record node { shared = asked_first }
unfolding answer_own tell_all tell_new process process_entry
of_the_deck = refl

-- of another system, job or task than the deck has: nothing
no_system : read_entry deck node (entry_of 2 0 0) ≡ node
no_system = refl

no_job : read_entry deck node (entry_of 1 1 0) ≡ node
no_job = refl

no_task : read_entry deck node (entry_of 1 0 1) ≡ node
no_task = refl

-- A removal: the elements of the system that goes leave the table, and those of another stay.
removes : read_entry deck (record node { shared = asked_first }) (bodies.Remove (record { 0 = 1 })) ≡ node
unfolding tell_freed tell_new tell_all
removes = refl

stays : read_entry deck (record node { shared = asked_first }) (bodies.Remove (record { 0 = 2 }))
    ≡ record node { shared = asked_first }
unfolding tell_freed tell_new tell_all
stays = refl

-- ---- which systems were removed, as a system is told that knows of these
abbrev informed : ℕ → ℕ → Step
informed known set = finish_call deck (record node { known = known }) choices.Rest (replies.Stale set)

-- the other one of the deck
other : informed 0 2 ≡ only (record node { known = 2 })
unfolding finish_call stale losing
other = refl

-- what it knew otherwise it forgets
anew : informed 2 1 ≡ only (record node { known = 1 })
unfolding finish_call stale losing
anew = refl

-- a third one, which the deck lacks, alone or beside its two: nothing
third : informed 2 4 ≡ only (record node { known = 2 })
unfolding finish_call stale losing
third = refl

third_beside : informed 2 7 ≡ only (record node { known = 2 })
unfolding finish_call stale losing
third_beside = refl
