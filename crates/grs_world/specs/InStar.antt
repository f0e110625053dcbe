-- The systems that a run removes while the complex is in star mode. Most laws of runs that speak of star mode are so
-- far of runs that remove none then, or none that manages a lock entry.
use Rattle.std.specs.Prelude.{◌≡◌, ℕ, ◌+◌, ◌==◌, Bool, true, false, not, cond, ◌&&◌, ◌||◌, List, [], ◌∷◌, ◌++◌, Option}
use Rattle.std.specs.Prelude.{Some, is_some}
use Rattle.std.specs.List.{list_any}
use Rattle.grs_base.specs.declared.resource.SysId.{SysId}
use Rattle.grs_medium.specs.Medium.{MediumState}
use Rattle.grs_node.specs.Node.{NodeState}
use Rattle.grs_wire.specs.LockWords.{is_manager, manager}
use Rattle.grs_wire.specs.Masks.{has}
use Rattle.grs_wire.specs.declared.deck.Choice.{Choice}
use Rattle.grs_wire.specs.declared.deck.Choice.TheVariants.{Purge}
use Rattle.grs_wire.specs.declared.deck.Deck.{Deck}
use Rattle.grs_wire.specs.declared.deck.Event.{Event}
use Rattle.grs_wire.specs.declared.medium.Reply.{Reply}
use Rattle.grs_wire.specs.declared.medium.Reply.TheVariants.{Purged}
use Rattle.grs_world.specs.Removing.{reply_of}
use Rattle.grs_world.specs.World.{World, first_world, happens}

-- whether a call was made and answered that a system was removed
abbrev pub is_purged : Option Reply → Bool
is_purged (Some Purged) = true
is_purged _ = false

-- whether an event removes a system, and the complex is in star mode
abbrev pub removes_in_star : Deck → World → Event → Bool
removes_in_star deck w e = w.medium.star && is_purged (reply_of deck w e)

-- the media at those of these events that do, as each was before its event
abbrev pub removals_from : Deck → World → List Event → List MediumState
removals_from deck w [] = []
removals_from deck w (e ∷ es) =
    cond (removes_in_star deck w e) (w.medium ∷ []) [] ++ removals_from deck (happens deck w e) es

abbrev pub removals_in_star : Deck → List Event → List MediumState
removals_in_star deck es = removals_from deck (first_world deck) es

-- A run removes no system in star mode.
abbrev pub NoneInStar : Deck → List Event → Type 0
NoneInStar deck es = removals_in_star deck es ≡ []

-- ---- of these, the removals that leave a lock entry without its manager, or a system that has still to change

-- whether a system manages a lock entry, by these words
abbrev pub manages_any : List ℕ → SysId → Bool
manages_any words s = list_any (λ w. is_manager (manager w) s) words

-- whether each of these systems, of which the first has this number, was removed or has changed to star mode
abbrev pub have_changed : ℕ → ℕ → List NodeState → Bool
have_changed removed s [] = true
have_changed removed s (n ∷ ns) = (has removed s || is_some n.star) && have_changed removed (s + 1) ns

-- whether a system chooses to remove another one that manages no lock entry, once each live system has changed
abbrev pub spares_entries : World → SysId → Choice → Bool
spares_entries w s (Purge target) =
    not (s.0 == target.0)
    && (not (manages_any w.medium.words target) && have_changed w.medium.removed 0 w.nodes)
spares_entries w s choice = false

-- whether an event removes a system in star mode, and not so
abbrev pub takes_entries : Deck → World → Event → Bool
takes_entries deck w e = removes_in_star deck w e && not (spares_entries w e.system e.choice)

-- the media at those of these events that do, as each was before its event
abbrev pub takings_from : Deck → World → List Event → List MediumState
takings_from deck w [] = []
takings_from deck w (e ∷ es) =
    cond (takes_entries deck w e) (w.medium ∷ []) [] ++ takings_from deck (happens deck w e) es

-- In star mode a run removes no system that manages a lock entry, and none while a live system has still to change.
abbrev pub NoneTakesEntries : Deck → List Event → Type 0
NoneTakesEntries deck es = takings_from deck (first_world deck) es ≡ []
