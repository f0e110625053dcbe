-- What an event fixes: by its choice and the reply to its call, or, where it makes none, by what its task asks.
use Rattle.std.specs.Prelude.{◌≡◌, ℕ, cond, List, [], ◌∷◌, ◌++◌, map, take, Option, Some, None, is_some, slice_get}
use Rattle.grs_base.specs.declared.resource.SysId.{SysId}
use Rattle.grs_base.specs.declared.resource.TaskId.{TaskId}
use Rattle.grs_legal.specs.Asks.{lines_of}
use Rattle.grs_legal.specs.declared.meaning.Meaning.{Meaning}
use Rattle.grs_legal.specs.declared.meaning.Meaning.TheVariants as lines
use Rattle.grs_medium.specs.Apply.{reply_to}
use Rattle.grs_medium.specs.Medium.{MediumState}
use Rattle.grs_node.specs.Node.{NodeState, has_most, prepare}
use Rattle.grs_node.specs.Star.{StarPart, first_held}
use Rattle.grs_node.specs.declared.prepared.Prepared.{Prepared}
use Rattle.grs_node.specs.declared.prepared.Prepared.TheVariants.{Quiet, Call, Nothing}
use Rattle.grs_wire.specs.Masks.{has}
use Rattle.grs_wire.specs.Wants.{res_wanted, is_for_all}
use Rattle.grs_wire.specs.declared.deck.Choice.{Choice}
use Rattle.grs_wire.specs.declared.deck.Choice.TheVariants as choices
use Rattle.grs_wire.specs.declared.deck.Deck.{Deck}
use Rattle.grs_wire.specs.declared.deck.Event.{Event}
use Rattle.grs_wire.specs.declared.medium.Reply.{Reply}
use Rattle.grs_wire.specs.declared.medium.Reply.TheVariants as replies
use Rattle.grs_wire.specs.declared.request.Fixed.{Fixed}
use Rattle.grs_wire.specs.declared.request.Fixed.TheVariants.{Asked, LocalLook, Purged}
use Rattle.grs_wire.specs.declared.request.Req.{Req}
use Rattle.grs_wire.specs.declared.request.Want.{Want}
use Rattle.grs_wire.specs.declared.request.Want.TheVariants.{Enq, Deq, Release}
use Rattle.task_state.specs.View.{state_of}
use Rattle.task_state.specs.declared.state.Asked.{Asked as AskedOf}
use Rattle.task_state.specs.declared.state.Phase.{Phase}
use Rattle.task_state.specs.declared.state.Phase.TheVariants as phases
use Rattle.task_state.specs.declared.state.Rec.{Rec}
use Rattle.grs_world.specs.World.{World, fixed_by, run}

-- what a task asks for that isn't answered yet, if it asks for something
abbrev pub asks_for : TaskId → Option AskedOf → List Fixed
asks_for t None = []
asks_for t (Some a) = Asked (record { task = t; want = a.req.want }) ∷ []

abbrev pub waits_at : NodeState → TaskId → List Fixed
waits_at n t = asks_for t (state_of n.tasks t).outstanding

-- the first request that a system holds of an entry that it doesn't gather, if there is one
abbrev pub one_request : Option Req → List Fixed
one_request None = []
one_request (Some q) = Asked q ∷ []

abbrev pub held_first : Option StarPart → List Fixed
held_first None = []
held_first (Some p) = one_request (first_held p)

-- ---- An event that makes a call. A Turn fixes the first requests of the outbox, as many as were put in; a Send that
-- the system itself answers, as the manager, what its task asks for; a Settle the first request that is held of an
-- entry that isn't gathered; and a removal itself.
abbrev pub when_turned : NodeState → Choice → ℕ → List Fixed
when_turned n choices.Turn taken = map Asked (take taken n.outbox)
when_turned n _ taken = []

abbrev pub when_sole : NodeState → Choice → List Fixed
when_sole n (choices.Send t) = waits_at n t
when_sole n _ = []

abbrev pub when_settled : NodeState → Choice → List Fixed
when_settled n choices.Settle = held_first n.star
when_settled n _ = []

abbrev pub when_purged : Choice → List Fixed
when_purged (choices.Purge target) = Purged target ∷ []
when_purged _ = []

-- With any other reply nothing is fixed.
abbrev pub fixed_by_reply : NodeState → Choice → Reply → List Fixed
fixed_by_reply n choice (replies.Turned entries taken closed) = when_turned n choice taken
fixed_by_reply n choice replies.Sole = when_sole n choice
fixed_by_reply n choice replies.Settled = when_settled n choice
fixed_by_reply n choice replies.Purged = when_purged choice
fixed_by_reply n choice _ = []

-- ---- An event that makes none. A task that goes on fixes what it asks of its own system alone: a request for a
-- resource that isn't one of the whole complex.
abbrev pub at_once : TaskId → Want → List Fixed
at_once t w = cond (is_for_all (res_wanted w)) [] (Asked (record { task = t; want = w }) ∷ [])

-- A task takes its next line: an ENQ, by which a record may be made if the task doesn't have as many as it may, or a
-- DEQ; or it shows lists, and looks at its system's own.
abbrev pub fixed_by_line : ℕ → NodeState → TaskId → Meaning → List Fixed
fixed_by_line limit n t (lines.Enq r c ret unit) = at_once t (Enq r c ret (has_most limit n.tasks t))
fixed_by_line limit n t (lines.Deq r have) = at_once t (Deq r have)
fixed_by_line limit n t (lines.Shows d) = cond (is_some d.home) (LocalLook t d.filter ∷ []) []
fixed_by_line limit n t _ = []

-- A task that ends, or has no line left, releases what it has on record first.
abbrev pub fixed_at_end : TaskId → List Rec → List Fixed
fixed_at_end t [] = []
fixed_at_end t (x ∷ xs) = at_once t (Release x.res)

abbrev pub fixed_when_ready : ℕ → NodeState → TaskId → Option Meaning → List Fixed
fixed_when_ready limit n t None = fixed_at_end t (state_of n.tasks t).records
fixed_when_ready limit n t (Some l) = fixed_by_line limit n t l

abbrev pub fixed_in_phase : ℕ → NodeState → TaskId → List Meaning → Phase → List Fixed
fixed_in_phase limit n t ls phases.Ready = fixed_when_ready limit n t (slice_get ls (state_of n.tasks t).line)
fixed_in_phase limit n t ls (phases.Ending code) = fixed_at_end t (state_of n.tasks t).records
fixed_in_phase limit n t ls _ = []

abbrev pub fixed_by_task : ℕ → NodeState → TaskId → Option (List Meaning) → List Fixed
fixed_by_task limit n t None = []
fixed_by_task limit n t (Some ls) = fixed_in_phase limit n t ls (state_of n.tasks t).phase

abbrev pub fixed_alone : Deck → NodeState → Choice → List Fixed
fixed_alone deck n (choices.Task t) = fixed_by_task deck.limit n t (lines_of deck t)
fixed_alone deck n _ = []

-- ---- what an event of a system fixes, by what its choice comes to
abbrev pub fixed_by_event : Deck → MediumState → SysId → NodeState → Choice → Prepared → List Fixed
fixed_by_event deck m s n choice Nothing = []
fixed_by_event deck m s n choice Quiet = fixed_alone deck n choice
fixed_by_event deck m s n choice (Call call) = fixed_by_reply n choice (reply_to m s call)

-- the system of an event, if it is there and wasn't removed
abbrev pub acting : World → SysId → Option NodeState
acting w s = cond (has w.medium.removed s.0) None (slice_get w.nodes s.0)

-- An event of such a system adds just that to what was fixed, under its system's number; any other event nothing.
abbrev pub fixed_more : Deck → World → Event → Option NodeState → List (SysId × Fixed)
fixed_more deck w e None = []
fixed_more deck w e (Some n) =
    fixed_by e.system (fixed_by_event deck w.medium e.system n e.choice (prepare deck n e.choice))

abbrev pub EventFixes : Deck → List Event → Event → Type 0
EventFixes deck es next =
    let w = run deck es in
    (run deck (es ++ next ∷ [])).fixed ≡ w.fixed ++ fixed_more deck w next (acting w next.system)
