-- A printed schedule behind the front of a deck's text is read as its events.
use Rattle.std.proofs.Common.{ℕ, List, []}
use Rattle.std.specs.Prelude.{All}
use Rattle.std.specs.List.{flat_map}
use Rattle.grs_wire.specs.Decks.{IsDeck, IsEventOf}
use Rattle.grs_wire.specs.declared.deck.Deck.{Deck}
use Rattle.grs_wire.specs.declared.deck.Event.{Event}
use Rattle.grs_deck.specs.EventLines.{SpellsEvents}
use Rattle.grs_deck.specs.Spells.{SpellsDeck}
use Rattle.grs_display.specs.Names.{names_of}
use Rattle.grs_report.specs.Schedule.{event_line}
use Rattle.grs_top.proofs.ScheduleTexts.{with_events}
use Rattle.grs_top.specs.Schedules.{SchedulesReadBack, printed}

pub read_back :
    ((text : List ℕ) (d : Deck) → SpellsDeck text d → IsDeck d)
    → ((deck : Deck) (es : List Event) → IsDeck deck → All (IsEventOf deck.systems deck.entries) es
    → SpellsEvents deck.systems deck.entries (flat_map (event_line (names_of deck)) es) es)
    → SchedulesReadBack
unfolding names_of
read_back whole again front deck es f of short =
    let none : Deck = record deck { events = [] } in
    with_events front (printed deck es) deck es f (again none es (whole front none f.spelled) of) short
