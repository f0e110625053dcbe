-- The run of a list of events: the medium, and the systems that share it. Each event is one system's.
use Rattle.std.specs.Prelude.{ℕ, ◌+◌, List, [], ◌∷◌, ◌++◌, length, map, cond, slice_get, set, Option, Some, None}
use Rattle.grs_base.specs.declared.resource.SysId.{SysId}
use Rattle.grs_medium.specs.Apply.{reply_to, medium_after}
use Rattle.grs_medium.specs.Medium.{MediumState, first_medium}
use Rattle.grs_node.specs.Log.{told_in}
use Rattle.grs_node.specs.Node.{NodeState, Step, first_node, prepare, finish}
use Rattle.grs_node.specs.declared.prepared.Prepared.{Prepared}
use Rattle.grs_node.specs.declared.prepared.Prepared.TheVariants.{Quiet, Call, Nothing}
use Rattle.grs_wire.specs.Masks.{has}
use Rattle.grs_wire.specs.declared.deck.Deck.{Deck}
use Rattle.grs_wire.specs.declared.deck.SystemDef.{SystemDef}
use Rattle.grs_wire.specs.declared.deck.Event.{Event}
use Rattle.grs_wire.specs.declared.deck.Choice.{Choice}
use Rattle.grs_wire.specs.declared.history.HistEntry.{HistEntry}
use Rattle.grs_wire.specs.declared.request.Fixed.{Fixed}
use Rattle.grs_wire.specs.declared.told.Told.{Told}
use Rattle.grs_wire.specs.declared.told.ToldLine.{ToldLine}
use Rattle.grs_wire.specs.History.{answered}

-- the medium, the systems by number, how many events there were, what they fixed and what was told
pub record World : Type 0 where
  pub medium : MediumState
  pub nodes : List NodeState
  pub events : ℕ
  pub fixed : List (SysId × Fixed)
  pub told : List Told

-- these systems of a deck, of which the first has this number
abbrev pub first_nodes : Deck → ℕ → List SystemDef → List NodeState
first_nodes deck s [] = []
first_nodes deck s (d ∷ ds) = first_node deck s ∷ first_nodes deck (s + 1) ds

unfoldable pub first_world : Deck → World
first_world deck = record {
  medium = first_medium (length deck.systems) deck.entries deck.star;
  nodes = first_nodes deck 0 deck.systems;
  events = 0;
  fixed = [];
  told = [];
}

-- an event as its system and the medium see it: what both are afterwards, and what was fixed
pub record Turnout : Type 0 where
  pub medium : MediumState
  pub step : Step

abbrev pub idle : MediumState → NodeState → Turnout
idle m n = record { medium = m; step = record { node = n; fixed = [] } }

-- what a prepared choice leads to
unfoldable pub carry_out : Deck → MediumState → SysId → NodeState → Choice → Prepared → Turnout
carry_out deck m s n choice Nothing = idle m n
carry_out deck m s n choice Quiet = record { medium = m; step = finish deck n choice None }
carry_out deck m s n choice (Call call) =
    record { medium = medium_after m s call; step = finish deck n choice (Some (reply_to m s call)) }

-- a choice of one system: it is prepared, makes at most one call of the medium, and is finished
unfoldable pub chosen : Deck → MediumState → SysId → NodeState → Choice → Turnout
chosen deck m s n choice = carry_out deck m s n choice (prepare deck n choice)

abbrev pub fixed_by : SysId → List Fixed → List (SysId × Fixed)
fixed_by s fs = map (λ f. (s, f)) fs

abbrev pub told_by : ℕ → SysId → List ToldLine → List Told
told_by e s ls = map (λ l. record { event = e; system = s; line = l }) ls

-- the world after this came of an event of a system
unfoldable pub placed : World → SysId → NodeState → Turnout → World
placed w s n out = record {
  medium = out.medium;
  nodes = set w.nodes s.0 out.step.node;
  events = w.events + 1;
  fixed = w.fixed ++ fixed_by s out.step.fixed;
  told = w.told ++ told_by (w.events + 1) s (told_in n out.step);
}

-- an event that changes nothing, but is counted
abbrev pub counted : World → World
counted w = record w { events = w.events + 1 }

-- an event of this system, if it is one
unfoldable pub happens_at : Deck → World → Event → Option NodeState → World
happens_at deck w e None = counted w
happens_at deck w e (Some n) =
    cond (has w.medium.removed e.system.0) (counted w) (placed w e.system n (chosen deck w.medium e.system n e.choice))

-- The world after one event. An event of a system that was removed, or isn't in the deck, changes nothing.
unfoldable pub happens : Deck → World → Event → World
happens deck w e = happens_at deck w e (slice_get w.nodes e.system.0)

-- the world after these events
abbrev pub run_from : Deck → World → List Event → World
run_from deck w [] = w
run_from deck w (e ∷ es) = run_from deck (happens deck w e) es

abbrev pub run : Deck → List Event → World
run deck es = run_from deck (first_world deck) es

-- the history of a run: what its events fixed, with the replies of the plain lists
abbrev pub hist : Deck → List Event → List HistEntry
hist deck es = answered (run deck es).fixed

-- what a run tells
abbrev pub told : Deck → List Event → List Told
told deck es = (run deck es).told
