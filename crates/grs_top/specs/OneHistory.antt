-- What a report says by itself, of no machine that makes a run: it shows one history, which is legal, and each line
-- that it tells agrees with that history as it was by the line's event.
use Rattle.std.specs.Prelude.{◌≡◌, ◌≤◌, ℕ, ◌+◌, ◌-◌, Bool, true, not, List, [], ◌++◌, length, map, take, drop}
use Rattle.std.specs.Prelude.{slice_get, Some}
use Rattle.std.specs.List.{list_all, list_any}
use Rattle.grs_base.specs.Rows.{rows_of}
use Rattle.grs_base.specs.declared.resource.SysId.{SysId}
use Rattle.grs_legal.specs.Legal.{Legal}
use Rattle.grs_report.specs.Report.{report}
use Rattle.grs_deck.specs.Places.{system_place}
use Rattle.grs_deck.specs.Spells.{SpellsDeck}
use Rattle.grs_wire.specs.History.{replay, answered, removes}
use Rattle.grs_wire.specs.declared.deck.Deck.{Deck}
use Rattle.grs_wire.specs.declared.deck.Event.{Event}
use Rattle.grs_wire.specs.declared.request.Fixed.{Fixed}
use Rattle.grs_wire.specs.declared.seen.Seen.{Seen}
use Rattle.grs_wire.specs.declared.told.Told.{Told}
use Rattle.grs_world.specs.Agree.{Moment, AgreeAt, RemovalsTold, is_event_of, is_of_event}
use Rattle.grs_world.specs.Stopped.{cut, turn_of}
use Rattle.grs_top.specs.Due.{IsAnswered}
use Rattle.grs_top.specs.Spared.{IsSpared}
use Rattle.grs_top.specs.declared.status.Status.{Status}
use Rattle.grs_top.specs.declared.words.Command.{Command}
use Rattle.grs_top.specs.declared.words.Command.TheVariants.{Replay, Run, Lists, Analyze, Notices, Latch, Stop, Audit}

-- What one event fixed, where so many things were fixed by the first events.
abbrev pub fixed_by_event : List (SysId × Fixed) → (ℕ → ℕ) → ℕ → List (SysId × Fixed)
fixed_by_event fixed fronts e = drop (fronts (e - 1)) (take (fronts e) fixed)

-- The moment of an event: the history up to it, what it fixed, and all that was told before.
abbrev pub moment_in : List (SysId × Fixed) → (ℕ → ℕ) → ℕ → List Told → Moment
moment_in fixed fronts e before = record {
  history = answered (take (fronts e) fixed);
  fixed = fixed_by_event fixed fronts e;
  before = before;
}

-- whether the system that fixed this is that of this event
abbrev pub is_of_its_event : List Event → ℕ → SysId × Fixed → Bool
is_of_its_event es e x = is_event_of x.0 (slice_get es (e - 1))

-- whether this was told by a system that wasn't removed before the event of the line
abbrev pub is_of_live : List (SysId × Fixed) → (ℕ → ℕ) → Told → Bool
is_of_live fixed fronts x = not (list_any (removes x.system) (answered (take (fronts (x.event - 1)) fixed)))

-- A text shows one history of a deck, by these events.
pub record ShowsOneHistory (deck : Deck) (es : List Event) (text : List ℕ) : Type 0 where
  -- It is the report of the events, a history, what was told, and lists.
  pub seen : Seen
  pub text_is : text ≡ report deck seen
  pub events : seen.events ≡ es
  -- The history is that of things fixed one after the other, each answered by the plain list of its resource; so many
  -- of them by the first events, all of them by all events.
  pub fixed : List (SysId × Fixed)
  pub fronts : ℕ → ℕ
  pub history : seen.hist ≡ answered fixed
  pub none : fronts 0 ≡ 0
  pub rising : (e : ℕ) → fronts e ≤ fronts (e + 1)
  pub all : fronts (length es) ≡ length fixed
  -- What an event fixed its own system did.
  pub own : (e : ℕ) → list_all (is_of_its_event es e) (fixed_by_event fixed fronts e) ≡ true
  -- It is legal: each entry is what its task asks next, or a removal that a desk commands, with the lists' reply.
  pub legal : Legal deck seen.hist
  -- Each line that is told agrees with the history up to its event, and is told by an event of its system;
  pub agree : AgreeAt deck (moment_in fixed fronts) [] seen.told
  pub by_events : list_all (is_of_event es) seen.told ≡ true
  -- each removal is told by the event that makes it, and a removed system tells nothing more;
  pub removals : (e : ℕ) → RemovalsTold deck e (fixed_by_event fixed fronts e) seen.told
  pub silent : list_all (is_of_live fixed fronts) seen.told ≡ true
  -- and the lists that are shown are those that the history leaves.
  pub queues : seen.queues ≡ rows_of (replay deck.limit seen.hist)

-- A text that is answered by the report of a run is answered by one that shows one history of the deck that it spells:
-- by the deck's events; by those that were made; or by those that are left without what the system which stops would do
-- behind its first so many, and behind them Turns alone.
abbrev pub ShowsHistory : Command → List ℕ → List ℕ → Type 0
ShowsHistory Lists text out = Unit {0}
ShowsHistory Analyze text out = Unit {0}
ShowsHistory Notices text out = Unit {0}
ShowsHistory Latch text out = Unit {0}
ShowsHistory Audit text out = Unit {0}
ShowsHistory Replay text out = (deck : Deck) × SpellsDeck text deck × ShowsOneHistory deck deck.events out
ShowsHistory Run text out =
    (deck : Deck) × SpellsDeck text deck × ((es : List Event) × ShowsOneHistory deck es out)
ShowsHistory (Stop x) text out =
    (deck : Deck) × SpellsDeck text deck × ((s : SysId) × (system_place deck.systems x.name ≡ Some s.0)
    × ((turns : List SysId) × ShowsOneHistory deck (cut s x.events deck.events ++ map turn_of turns) out))

-- So it is of spared runs: they remove no system in star mode that manages a lock entry, and none there before all
-- live ones have changed.
abbrev pub AnswersShowHistories : Type 0
AnswersShowHistories =
    (c : Command) (text out : List ℕ) (status : Status) (a : IsAnswered c text out status)
    → IsSpared c text out status a → ShowsHistory c text out
