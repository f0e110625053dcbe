-- A run as the code keeps it, and what is seen of it.
use Rattle.std.specs.Prelude.{◌≡◌, ℕ, Bool, true, not, cond, ◌&&◌, ◌||◌, ◌+◌, List, [], ◌∷◌, ◌++◌, length, map, get_or}
use Rattle.std.specs.Prelude.{◌==◌, slice_get, Option, Some, None}
use Rattle.grs_base.specs.declared.resource.SysId.{SysId}
use Rattle.grs_base.specs.declared.resource.TaskId.{TaskId}
use Rattle.grs_medium.specs.Medium.{medium_at_end}
use Rattle.grs_node.specs.Log.{NodeView, end_in}
use Rattle.grs_node.specs.Node.{NodeState, first_node, is_pending}
use Rattle.task_state.specs.Units.{units_at}
use Rattle.grs_wire.specs.Masks.{has, lives}
use Rattle.grs_wire.specs.declared.deck.Deck.{Deck}
use Rattle.grs_wire.specs.declared.deck.Event.{Event}
use Rattle.grs_wire.specs.declared.seen.TaskEnd.{TaskEnd}
use Rattle.grs_wire.specs.declared.seen.TaskEnd.TheVariants as ends
use Rattle.task_state.specs.View.{TasksView, is_task, state_of}
use Rattle.grs_world.specs.World.{World, first_world, happens, run}

-- the world of a run, and the deck whose run it is
pub record Running : Type 0 where
  pub deck : Deck
  pub world : World

-- a deck before its first event
abbrev pub starting : Deck → Running
starting deck = record { deck = deck; world = first_world deck }

-- a run after one more event
abbrev pub after : Running → Event → Running
after w e = record { deck = w.deck; world = happens w.deck w.world e }

-- a deck after these events
abbrev pub ran : Deck → List Event → Running
ran deck es = record { deck = deck; world = run deck es }

-- each of them has its place as its number, of which the first is this one
abbrev pub AreNumbered : ℕ → List NodeView → Type 0
AreNumbered s [] = Unit {0}
AreNumbered s (v ∷ vs) = (v.node.tasks.system ≡ s) × AreNumbered (s + 1) vs

-- the systems without their decks and logs
abbrev pub nodes_of : List NodeView → List NodeState
nodes_of vs = map (λ v. v.node) vs

-- all of them are systems of this deck
abbrev pub AreOf : Deck → List NodeView → Type 0
AreOf deck [] = Unit {0}
AreOf deck (v ∷ vs) = (v.deck ≡ deck) × AreOf deck vs

-- whether a system is there and wasn't removed
abbrev pub is_live : World → SysId → Bool
is_live w s = lives (length w.nodes) w.medium.removed s.0

-- a system that is there
abbrev pub node_at : Deck → List NodeState → SysId → NodeState
node_at deck ns s = get_or ns s.0 (first_node deck s.0)

-- whether something is left to do at a system, where those in the set were removed: something is pending, or it doesn't
-- know who was removed
abbrev pub is_busy : Deck → ℕ → NodeState → Bool
is_busy deck removed n = is_pending deck n || not (n.known == removed)

-- whether none of these systems is busy, of which the first has this number, but removed ones: each is given by whether
-- it is
abbrev pub none_busy : ℕ → ℕ → List Bool → Bool
none_busy removed s [] = true
none_busy removed s (busy ∷ more) = (has removed s || not busy) && none_busy removed (s + 1) more

-- whether each of these systems is
abbrev pub busy_at : ℕ → List NodeView → List Bool
busy_at removed vs = map (λ v. is_busy v.deck removed v.node) vs

-- A world is at rest where nothing is pending at a system that wasn't removed, each of these knows who was, and nothing
-- is left to do with the medium.
unfoldable pub at_rest : Deck → World → Bool
at_rest deck w =
    none_busy w.medium.removed 0 (map (is_busy deck w.medium.removed) w.nodes) && medium_at_end w.medium

-- the units that the tasks of these systems reserve, each with its count, by system and unit
abbrev pub units_of : List NodeState → List (SysId × ℕ × ℕ)
units_of [] = []
units_of (n ∷ ns) = units_at (record { 0 = n.tasks.system }) n.tasks.tasks ++ units_of ns

-- the end of a task; one that isn't there hasn't ended
abbrev pub end_of : TasksView → TaskId → TaskEnd
end_of v t = cond (is_task v t) (end_in (state_of v t).phase) ends.Open

-- the end of a task whose system was removed: it had ended before, or was removed with its system
abbrev pub end_removed : TaskEnd → TaskEnd
end_removed ends.Ended = ends.Ended
end_removed other = ends.Removed

-- the end of a task at its system, if that one is there; the systems in the set were removed
abbrev pub end_at : ℕ → TaskId → Option NodeState → TaskEnd
end_at removed t None = ends.Open
end_at removed t (Some n) = cond (has removed t.system.0) (end_removed (end_of n.tasks t)) (end_of n.tasks t)

-- the end of a task at these systems, of which those in the set were removed
abbrev pub task_end : ℕ → List NodeState → TaskId → TaskEnd
task_end removed ns t = end_at removed t (slice_get ns t.system.0)
