-- A deck apart from its schedule; and the schedule of a run that was made: its events are the deck's, and its printed
-- lines are read as these events.
use Rattle.std.specs.Prelude.{◌≡◌, ◌≤◌, ℕ, true, List, [], ◌∷◌, ◌++◌, length, All}
use Rattle.std.specs.List.{flat_map}
use Rattle.deck_scan.specs.Reading.{most_text_bytes}
use Rattle.grs_wire.specs.Decks.{IsEventOf, IsDeck}
use Rattle.grs_wire.specs.declared.deck.Deck.{Deck}
use Rattle.grs_wire.specs.declared.deck.Event.{Event}
use Rattle.grs_world.specs.World.{first_world}
use Rattle.deck_scan.specs.Pieces.{Piece, LineEnd}
use Rattle.grs_deck.specs.Spells.{SpellsDeck}
use Rattle.grs_report.specs.Schedule.{event_line}
use Rattle.grs_display.specs.Names.{names_of}
use Rattle.grs_top.specs.Beside.{AllDo}

-- A deck without its schedule. A run goes by it and by events that are told beside it, so what these come to is the
-- same whatever schedule stands in the deck.
abbrev pub unscheduled : Deck → Deck
unscheduled deck = record deck { events = [] }

-- Events of which each has something to do where it stands in a run of a deck are the deck's: their systems are, with
-- tasks and lock entries that there are, and a removal is of another of its systems.
abbrev pub DoersAreOfDeck : Type 0
DoersAreOfDeck =
    (deck : Deck) (es : List Event) → IsDeck deck → AllDo deck (first_world deck) es
    → All (IsEventOf deck.systems deck.entries) es

-- The printed lines of events, as they stand in a report behind the line that counts them.
abbrev pub printed : Deck → List Event → List ℕ
printed deck es = flat_map (event_line (names_of deck)) es

-- A text up to the events of a deck: it spells the deck without events, its SCHEDULE was read, and it ends with the end of
-- a line.
pub record IsFront (front : List ℕ) (deck : Deck) : Type 0 where
  pub spelled : SpellsDeck front (unscheduled deck)
  pub scheduled : spelled.draft.scheduled ≡ true
  pub before : List Piece
  pub ends : spelled.spelled.pieces ≡ before ++ LineEnd ∷ []

-- Behind such a text the printed lines of events are read as these events and no others.
abbrev pub SchedulesReadBack : Type 0
SchedulesReadBack =
    (front : List ℕ) (deck : Deck) (es : List Event) → IsFront front deck
    → All (IsEventOf deck.systems deck.entries) es → length (front ++ printed deck es) ≤ most_text_bytes
    → SpellsDeck (front ++ printed deck es) (record deck { events = es })
