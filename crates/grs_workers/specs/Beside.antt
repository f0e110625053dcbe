-- What the systems of a deck leave behind that ran beside each other on a medium whose calls a journal keeps.
use Rattle.std.specs.Prelude.{◌≡◌, ◌≢◌, ◌<◌, ◌+◌, ℕ, Bool, true, List, [], ◌∷◌, length, map}
use Rattle.grs_base.specs.declared.resource.SysId.{SysId}
use Rattle.grs_bus.specs.Journal.{after_all, entries_of, is_entered, Begins}
use Rattle.grs_bus.specs.Seats.{BusValue, SeatValue, AllSeats, AreTheSeats, IsNew, with_entry}
use Rattle.grs_medium.specs.Apply.{MayCall, reply_to, medium_after}
use Rattle.grs_medium.specs.Medium.{MediumState, first_medium}
use Rattle.grs_node.specs.Log.{NodeView}
use Rattle.grs_node.specs.Node.{first_node}
use Rattle.grs_wire.specs.declared.deck.Deck.{Deck}
use Rattle.grs_wire.specs.declared.medium.Call.{Call}
use Rattle.grs_wire.specs.declared.medium.JEntry.{JEntry}
use Rattle.grs_wire.specs.declared.medium.Reply.{Reply}
use Rattle.grs_wire.specs.declared.medium.Reply.TheVariants.{Removed}
use Rattle.grs_workers.specs.Makes.{Makes}
use Rattle.grs_workers.specs.Rounds.{Went}
use Rattle.grs_workers.specs.Stands.{Stand, stand, first_stand, is_last_reply}
use Rattle.grs_workers.specs.declared.worker.Worker.{Worker}

-- the medium at the start of a deck's run
abbrev pub medium_of : Deck → MediumState
medium_of deck = first_medium (length deck.systems) deck.entries deck.star

-- An entry is served where the medium is m: the medium may be asked its call, the reply is the medium's, and the caller
-- isn't told that it was removed.
pub record IsServed (m : MediumState) (e : JEntry) : Type 0 where
  pub may_call : MayCall m e.system e.call
  pub reply : e.reply ≡ reply_to m e.system e.call
  pub there : e.reply ≢ Removed

-- each entry is served at its place
abbrev pub AreServed : MediumState → List JEntry → Type 0
AreServed m [] = Unit {0}
AreServed m (e ∷ es) = IsServed m e × AreServed (medium_after m e.system e.call) es

-- A system is what its log's steps make of the deck's system of this number, where its calls are replied as its entries
-- of the journal say.
pub record IsMade (deck : Deck) (journal : List JEntry) (s : ℕ) (v : NodeView) : Type 0 where
  pub of_deck : v.deck ≡ deck
  pub makes : Makes deck (first_node deck s) v.log (entries_of s journal) v.node

-- the same of each of these systems, of which the first has this number
abbrev pub AreMade : Deck → List JEntry → ℕ → List NodeView → Type 0
AreMade deck journal s [] = Unit {0}
AreMade deck journal s (v ∷ vs) = IsMade deck journal s v × AreMade deck journal (s + 1) vs

-- The systems of a deck ran beside each other: the journal's entries are served and lead from the deck's medium to this
-- one, and each system is what its log's steps make of it.
pub record RanBeside (deck : Deck) (m : MediumState) (journal : List JEntry) (vs : List NodeView) : Type 0 where
  pub served : AreServed (medium_of deck) journal
  pub medium : m ≡ after_all (medium_of deck) journal
  pub count : length vs ≡ length deck.systems
  pub made : AreMade deck journal 0 vs

-- How a system ends: where the journal was this far, a call of it is answered that all have come to rest, or that the
-- system was removed; and behind it the system has no entry.
pub record LastCall (first : MediumState) (journal : List JEntry) (s : SysId) : Type 0 where
  pub before : List JEntry
  pub call : Call
  pub told : Reply × Bool
  pub reply : told.0 ≡ reply_to (after_all first before) s call
  pub last : is_last_reply told.0 ≡ true
  pub entered : told.1 ≡ is_entered (after_all first before) s call
  pub begins : Begins (with_entry before s call told) journal
  pub own : entries_of s.0 journal ≡ entries_of s.0 (with_entry before s call told)

-- each system of a deck ends so
abbrev pub AllLast : Deck → List JEntry → Type 0
AllLast deck journal = (s : SysId) → s.0 < length deck.systems → LastCall (medium_of deck) journal s

-- ---- on the way there

-- the workers of a deck at a bus before their first round
pub record AreFirst (deck : Deck) (b : BusValue) (ws : List Worker) : Type 0 where
  pub seats : List SeatValue
  pub theirs : AreTheSeats b seats
  pub new : AllSeats IsNew seats
  pub count : length seats ≡ length deck.systems
  pub stands : map stand ws ≡ map (first_stand deck) seats

-- a worker that was answered Over or Removed in its last round
abbrev pub IsOver : Stand → Type 0
IsOver w = (u : Stand) × Went u true w
