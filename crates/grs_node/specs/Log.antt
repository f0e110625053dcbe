-- A system with its deck and what it keeps of its own events.
use Rattle.std.specs.Prelude.{ℕ, Bool, true, false, cond, List, [], ◌∷◌, ◌++◌, length, drop, Option, Some, None}
use Rattle.grs_wire.specs.declared.deck.Choice.{Choice}
use Rattle.grs_wire.specs.declared.deck.Deck.{Deck}
use Rattle.grs_wire.specs.declared.log.StepDone.{StepDone}
use Rattle.grs_wire.specs.declared.medium.Reply.{Reply}
use Rattle.grs_wire.specs.declared.request.Fixed.{Fixed}
use Rattle.grs_wire.specs.declared.seen.TaskEnd.{TaskEnd}
use Rattle.grs_wire.specs.declared.seen.TaskEnd.TheVariants as ends
use Rattle.grs_wire.specs.declared.told.ToldLine.{ToldLine}
use Rattle.grs_node.specs.Node.{NodeState, Step, first_node, finish}
use Rattle.grs_node.specs.declared.ready.ToldNext.{ToldNext}
use Rattle.task_state.specs.declared.state.Phase.{Phase}
use Rattle.task_state.specs.declared.state.Phase.TheVariants as phases

-- What a system has ready for a reply: for how many events more the log has room, for how many told lines there is room
-- in all, for how many that an event told, and who is told next at a lock entry.
pub record Room : Type 0 where
  pub steps : ℕ
  pub lines : ℕ
  pub told : ℕ
  pub next : Option ToldNext

-- a system, the deck whose system it is, its events so far, and what it has ready
pub record NodeView : Type 0 where
  pub deck : Deck
  pub node : NodeState
  pub log : List StepDone
  pub room : Room

abbrev pub no_room : Room
no_room = record { steps = 0; lines = 0; told = 0; next = None }

-- a system as definitions speak of it: whatever it has ready is left out of account
abbrev pub shown : NodeView → NodeView
shown v = record v { room = no_room }

-- the system of this number of a deck before its first event
abbrev pub starting : Deck → ℕ → NodeView
starting deck s = record { deck = deck; node = first_node deck s; log = []; room = no_room }

-- a system after a step that fixed this
abbrev pub stepped : NodeState → List Fixed → Step
stepped n fixed = record { node = n; fixed = fixed }

-- what a system told in a step
abbrev pub told_in : NodeState → Step → List ToldLine
told_in n s = drop (length n.tasks.told) s.node.tasks.told

-- an event as its system keeps it
abbrev pub step_done : NodeState → Choice → Bool → Step → StepDone
step_done n choice journalled s = record {
  choice = choice;
  journalled = journalled;
  fixed = s.fixed;
  told = told_in n s;
}

-- the same with this step behind its events
abbrev pub logged : NodeView → Choice → Bool → Step → NodeView
logged v choice journalled
    s = record v { node = s.node; log = v.log ++ step_done v.node choice journalled s ∷ [] }

-- The system after a choice. What is done without a call goes into the log, and a call exactly where it has an
-- entry in the journal.
unfoldable pub finished : NodeView → Choice → Option (Reply × Bool) → NodeView
finished v choice None = logged v choice false (finish v.deck v.node choice None)
finished v choice (Some r) =
    cond r.1
    (logged v choice true (finish v.deck v.node choice (Some r.0)))
    (record v { node = (finish v.deck v.node choice (Some r.0)).node })

-- the end of a task in this phase
abbrev pub end_in : Phase → TaskEnd
end_in phases.Ended = ends.Ended
end_in phases.HeldAnswer = ends.Waits
end_in (phases.HeldLine r) = ends.Waits
end_in _ = ends.Open
