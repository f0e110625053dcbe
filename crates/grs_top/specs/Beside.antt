-- Systems that ran beside each other: what they leave behind is the run of their events in one order.
use Rattle.std.specs.Prelude.{◌≡◌, ◌≢◌, ◌<◌, true, false, List, [], ◌∷◌, length, map, Some, slice_get}
use Rattle.grs_history.specs.Merge.{merged_steps}
use Rattle.grs_history.specs.declared.order.Merged.{Merged}
use Rattle.grs_medium.specs.Medium.{MediumState}
use Rattle.grs_node.specs.Log.{NodeView}
use Rattle.grs_node.specs.Node.{NodeState, prepare}
use Rattle.grs_node.specs.declared.prepared.Prepared.TheVariants.{Nothing}
use Rattle.grs_wire.specs.Masks.{has}
use Rattle.grs_wire.specs.declared.deck.Deck.{Deck}
use Rattle.grs_wire.specs.declared.deck.Event.{Event}
use Rattle.grs_wire.specs.declared.log.StepDone.{StepDone}
use Rattle.grs_wire.specs.declared.medium.JEntry.{JEntry}
use Rattle.grs_workers.specs.Beside.{RanBeside, AllLast}
use Rattle.grs_world.specs.Running.{nodes_of, at_rest}
use Rattle.grs_world.specs.World.{World, first_world, happens, run, hist, told}

abbrev pub logs_of : List NodeView → List (List StepDone)
logs_of vs = map (λ v. v.log) vs

-- An event has something to do in a world: it is of a system that is there and wasn't removed, and its choice comes to
-- something.
pub record HasToDo (deck : Deck) (w : World) (e : Event) : Type 0 where
  pub node : NodeState
  pub at : slice_get w.nodes e.system.0 ≡ Some node
  pub there : has w.medium.removed e.system.0 ≡ false
  pub some : prepare deck node e.choice ≢ Nothing

-- each of these events has, where those before it lead from this world
abbrev pub AllDo : Deck → World → List Event → Type 0
AllDo deck w [] = Unit {0}
AllDo deck w (e ∷ es) = HasToDo deck w e × AllDo deck (happens deck w e) es

-- What is shown is the run of its events, each of which has something to do: it has this medium, these systems, this
-- history, and tells these lines.
pub record IsRun (deck : Deck) (m : MediumState) (vs : List NodeView) (x : Merged) : Type 0 where
  pub all_do : AllDo deck (first_world deck) x.events
  pub medium : (run deck x.events).medium ≡ m
  pub nodes : (run deck x.events).nodes ≡ nodes_of vs
  pub hist : hist deck x.events ≡ x.hist
  pub told : told deck x.events ≡ x.told

-- What systems show that ran beside each other is the run of their events in the journal's order.
abbrev pub MergedRuns : Type 0
MergedRuns =
    (deck : Deck) (m : MediumState) (journal : List JEntry) (vs : List NodeView) → RanBeside deck m journal vs
    → IsRun deck m vs (merged_steps journal (logs_of vs))

-- Where each system's last call was answered that all have come to rest, or that the system was removed, that run ends
-- at rest.
abbrev pub MergedRests : Type 0
MergedRests =
    (deck : Deck) (m : MediumState) (journal : List JEntry) (vs : List NodeView) → 0 < length deck.systems
    → RanBeside deck m journal vs → AllLast deck journal
    → at_rest deck (run deck (merged_steps journal (logs_of vs)).events) ≡ true
