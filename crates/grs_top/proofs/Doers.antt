-- Each event that has something to do where it stands in a run of a deck is one of the deck's.
use Rattle.std.proofs.Common.{◌≡◌, ◌<◌, List, [], ◌∷◌, ◌++◌, length, sym, ◌∙◌}
use Rattle.std.proofs.Common.{subst}
use Rattle.std.proofs.Common.{arith}
use Rattle.std.specs.Prelude.{All}
use Rattle.std.proofs.lemmas.List.Elements.{All-cons, All-nil}
use Rattle.std.proofs.lemmas.Option.{slice_get_within}
use Rattle.grs_wire.specs.Decks.{IsDeck, IsEventOf}
use Rattle.grs_wire.specs.declared.deck.Deck.{Deck}
use Rattle.grs_wire.specs.declared.deck.Event.{Event}
use Rattle.grs_world.proofs.at_rest.Homes.{homes_run}
use Rattle.grs_world.proofs.at_rest.Sized.{sized_run}
use Rattle.grs_world.proofs.run.Each.{run-push}
use Rattle.grs_world.proofs.run.GoesOn.{as_many}
use Rattle.grs_world.specs.World.{World, first_world, run}
use Rattle.grs_top.specs.Beside.{AllDo, HasToDo}
use Rattle.grs_top.specs.Schedules.{DoersAreOfDeck}
use Rattle.grs_top.proofs.OfDeck.{does_its, item_at}

-- ---- what is so in each run
module _ (deck : Deck) (whole : IsDeck deck) where
  event_of_deck : (es : List Event) (e : Event) → HasToDo deck (run deck es) e → IsEventOf deck.systems deck.entries e
  event_of_deck es e d =
      let within = slice_get_within (run deck es).nodes e.system.0 d.node d.at in
      let below : e.system.0 < length deck.systems = omega (arith, within, as_many deck es) in
      let found = item_at deck.systems e.system.0 below in
      record {
        found = found.0;
        system = found.1;
        below = below;
        choice =
            does_its deck whole d.node e.system found.0 (homes_run deck es e.system.0 d.node d.at) found.1
            (sized_run deck es e.system.0 d.node d.at) e.choice d.some;
      }

  all_of_deck : (done es : List Event) → AllDo deck (run deck done) es → All (IsEventOf deck.systems deck.entries) es
  all_of_deck done [] all = All-nil (IsEventOf deck.systems deck.entries)
  all_of_deck done (e ∷ es) all =
      All-cons (IsEventOf deck.systems deck.entries) e es (event_of_deck done e all.0)
      (all_of_deck (done ++ e ∷ []) es
      (subst (λ (w : World). AllDo deck w es) (sym (run-push deck done (first_world deck) e)) all.1))

pub doers_of_deck : DoersAreOfDeck
doers_of_deck deck es whole all = all_of_deck deck whole [] es all
