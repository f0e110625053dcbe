-- What is said of a deck without its schedule is said of the deck.
use Rattle.std.specs.Prelude.{◌≡◌, ◌↔◌, ℕ, List}
use Rattle.grs_legal.specs.Legal.{Legal}
use Rattle.grs_wire.specs.declared.deck.Deck.{Deck}
use Rattle.grs_wire.specs.declared.deck.Event.{Event}
use Rattle.grs_wire.specs.declared.history.HistEntry.{HistEntry}
use Rattle.grs_world.specs.Agree.{Sound}
use Rattle.grs_world.specs.World.{run}
use Rattle.grs_top.specs.OneHistory.{ShowsOneHistory}
use Rattle.grs_top.specs.Schedules.{unscheduled}
use Rattle.grs_top.specs.Seen.{report_of, ending}

-- The schedule of a deck is read by nobody but who takes its events. Whether it stands there or not, the deck has one
-- run of any events, with one report and one ending; that run is sound, or it isn't; the same histories are legal; and
-- a text shows one history of both, or of neither.
pub record ScheduleIsUnread (deck : Deck) (es : List Event) : Type 0 where
  pub runs : run (unscheduled deck) es ≡ run deck es
  pub report : report_of (unscheduled deck) es ≡ report_of deck es
  pub ends : ending (unscheduled deck) es ≡ ending deck es
  pub sound : Sound (unscheduled deck) es ↔ Sound deck es
  pub legal : (hist : List HistEntry) → Legal (unscheduled deck) hist ↔ Legal deck hist
  pub shows : (text : List ℕ) → ShowsOneHistory (unscheduled deck) es text ↔ ShowsOneHistory deck es text
