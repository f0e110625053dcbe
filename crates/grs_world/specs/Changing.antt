-- The change to star mode fixes nothing.
use Rattle.std.specs.Prelude.{◌≡◌, ◌&&◌, ◌||◌, ◌++◌, ◌∷◌, Bool, true, false, List, [], Option, Some, None, is_none}
use Rattle.std.specs.Prelude.{slice_get}
use Rattle.std.specs.Option.{is_some}
use Rattle.grs_wire.specs.declared.deck.Choice.{Choice}
use Rattle.grs_wire.specs.declared.deck.Choice.TheVariants as choices
use Rattle.grs_wire.specs.declared.deck.Deck.{Deck}
use Rattle.grs_wire.specs.declared.deck.Event.{Event}
use Rattle.grs_node.specs.Node.{NodeState}
use Rattle.grs_node.specs.Star.{StarPart}
use Rattle.grs_world.specs.World.{run}

abbrev pub is_switch : Choice → Bool
is_switch choices.Switch = true
is_switch _ = false

-- a system's part in star mode, where there is the system and the part
abbrev pub star_at : Option NodeState → Option StarPart
star_at None = None
star_at (Some n) = n.star

-- whether a system has changed to star mode from one moment to another
abbrev pub has_moved : Option NodeState → Option NodeState → Bool
has_moved before after = is_none (star_at before) && is_some (star_at after)

-- Where the next event is a Switch, or its system changes to star mode by it, it fixes nothing. So no list of the
-- history changes by it.
abbrev pub ChangesFixNothing : Deck → List Event → Event → Type 0
ChangesFixNothing deck es next =
    (is_switch next.choice
    || has_moved (slice_get (run deck es).nodes next.system.0)
    (slice_get (run deck (es ++ next ∷ [])).nodes next.system.0))
    ≡ true
    → (run deck (es ++ next ∷ [])).fixed ≡ (run deck es).fixed
