-- What `stop` is answered by.
use Rattle.std.specs.Prelude.{◌≡◌, ◌⊎◌, ℕ, List, None, Some}
use Rattle.grs_base.specs.declared.fault.DeckFault.{DeckFault}
use Rattle.grs_base.specs.declared.fault.Kind.TheVariants.{UnknownName}
use Rattle.grs_base.specs.declared.resource.SysId.{SysId}
use Rattle.grs_deck.specs.Faults.{IsFault}
use Rattle.grs_deck.specs.Places.{system_place}
use Rattle.grs_deck.specs.Spells.{SpellsDeck}
use Rattle.grs_wire.specs.declared.deck.Deck.{Deck}
use Rattle.grs_world.specs.Stopped.{stopped}
use Rattle.grs_top.specs.Schedules.{unscheduled}
use Rattle.grs_top.specs.StopWords.{StopValue}
use Rattle.grs_top.specs.Texts.{IsReported}
use Rattle.grs_top.specs.declared.status.Status.{Status}

-- the fault of a deck that has no such system: it has no line of its own
abbrev pub no_such_system : DeckFault
no_such_system = record { line = 0; kind = UnknownName }

-- The text spells this deck, which has the system that stops.
pub record SpellsDeckOf (x : StopValue) (text : List ℕ) (deck : Deck) : Type 0 where
  pub spelled : SpellsDeck text deck
  pub place : ℕ
  pub named : system_place deck.systems x.name ≡ Some place

-- The first fault of the text, or where it has none, that its deck has no such system.
abbrev pub IsFaultFor : StopValue → List ℕ → DeckFault → Type 0
IsFaultFor x text fault =
    IsFault text fault
    ⊎ ((deck : Deck) × SpellsDeck text deck × (system_place deck.systems x.name ≡ None) × (fault ≡ no_such_system))

-- The run of the deck's events in which the system stops behind its first so many is reported.
pub record IsStopped (x : StopValue) (deck : Deck) (out : List ℕ) (status : Status) : Type 0 where
  pub system : SysId
  pub named : system_place deck.systems x.name ≡ Some system.0
  pub reported :
      IsReported (unscheduled deck) (stopped (unscheduled deck) system x.events deck.events) out status
