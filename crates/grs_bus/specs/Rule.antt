-- The rule of the bus. Word 0 is 64 times the journal's length and who holds it: 0 for nobody, or a system's number
-- and one. The slot is out exactly while a seat holds the word. The journal of the rule is the one that the slot had
-- when it was at home last: an entry that a holder has put in joins it where the word is given back.
use Rattle.std.specs.Prelude.{◌≡◌, ◌≢◌, ℕ, ◌+◌, ◌*◌, ◌<◌, ◌≤◌, List, [], ◌∷◌, ◌++◌, length, Bool, true, false, None}
use mathlib.Core.Option.{none, some}
use lib.ListN.{get_elem?}
use Rattle.atomic_table.specs.Table.{State}
use Rattle.grs_base.specs.declared.resource.SysId.{SysId}
use Rattle.grs_wire.specs.declared.medium.JEntry.{JEntry}
use Rattle.grs_medium.specs.Medium.{MediumState, first_medium}
use Rattle.grs_medium.specs.Room.{MediumValue}
use Rattle.grs_bus.specs.Journal.{holders, after_all, AreRight, entries_of, Begins}
use Rattle.grs_bus.specs.Seats.{SeatValue}
use Rattle.grs_bus.specs.declared.slot.Slot.{Slot}
use Rattle.grs_bus.specs.declared.view.Past.{Past}
use Rattle.grs_bus.specs.declared.view.View.{View}

-- a view after a step of its own seat
abbrev pub changed : View → List JEntry → List JEntry → ℕ → Bool → View
changed v own seen takes holding = record v { own = own; seen = seen; takes = takes; holding = holding }

-- the view of a new seat
abbrev pub newcomer : MediumValue → SysId → List JEntry → ℕ → View
newcomer first s seen given = record {
  system = s;
  own = [];
  seen = seen;
  takes = 0;
  holding = false;
  spent = false;
  given = given;
  olds = [];
  first = first;
}

-- the view of the first seat, from which all others are cut off
abbrev pub founder : MediumValue → View
founder first = newcomer first (record { 0 = 0 }) [] 1

-- the view of a seat that was taken in; its medium is any
abbrev pub spent_view : View
spent_view = record {
  system = record { 0 = 0 };
  own = [];
  seen = [];
  takes = 0;
  holding = false;
  spent = true;
  given = 0;
  olds = [];
  first = record {
    state = first_medium 0 0 false;
    room = record { caller = None; entries = 0 };
    ready = None;
    moved = [];
  };
}

-- what is kept of a seat that is taken in: of its view, which is of what the seat shows
abbrev pub past_of : View → Past
past_of v = record { system = v.system; own = v.own; seen = v.seen }

abbrev pub past_of_seat : SeatValue → Past
past_of_seat v = record { system = v.system; own = v.own; seen = v.seen }

-- the first seat once it has cut another one off, the one that is cut off, and the first seat once it has taken
-- another one in
abbrev pub cut_left : View → View
cut_left v = record v { given = v.given + 1 }

abbrev pub cut_right : View → View
cut_right v = newcomer v.first (record { 0 = v.given }) v.seen 0

abbrev pub joined : View → View → View
joined v w = record v { olds = v.olds ++ past_of w ∷ [] }

-- the first seat once it has taken in these, the last first
abbrev pub joined_all : View → List SeatValue → View
joined_all v [] = v
joined_all v (s ∷ seats) = record (joined_all v seats) { olds = (joined_all v seats).olds ++ past_of_seat s ∷ [] }

-- the slot has this journal, and the medium to which it leads
abbrev pub IsSettled : MediumState → List JEntry → Slot → Type 0
IsSettled first journal slot = (slot.journal.items ≡ journal) × (slot.medium.state ≡ after_all first journal)

-- the seat in place i has this view, and was not taken in by another
abbrev pub Live : List View → ℕ → View → Type 0
Live views i v = (get_elem? views i ≡ some v) × (v.spent ≡ false)

-- what holds of a seat that was taken in
abbrev pub IsPast : List JEntry → ℕ → Past → Type 0
IsPast journal count o = (o.own ≡ entries_of o.system.0 journal) × Begins o.seen journal × (o.system.0 < count)

-- what holds of each seat
pub record Knows (first : MediumValue) (journal : List JEntry) (holder count : ℕ) (v : View) : Type 0 where
  pub first_is : v.first ≡ first
  -- its system is one of those that were given a seat
  pub below : v.system.0 < count
  -- its own are the journal's entries of its system
  pub own_is : v.own ≡ entries_of v.system.0 journal
  -- the journal begins with what it has seen
  pub seen_is : Begins v.seen journal
  -- where it holds the word, the word says so, and it has seen the whole journal
  pub holding_is : v.holding ≡ true → (holder ≡ v.system.0 + 1) × (v.seen ≡ journal)
  -- the first seat knows how many seats there are
  pub given_is : v.system.0 ≡ 0 → v.given ≡ count
  -- and those that it has taken in
  pub olds_are : v.system.0 ≡ 0 → (k : ℕ) (o : Past) → get_elem? v.olds k ≡ some o → IsPast journal count o

-- some seat holds the word
abbrev pub IsHeld : List View → Type 0
IsHeld views = (i : ℕ) × (v : View) × Live views i v × (v.holding ≡ true)

pub record IsKept (first : MediumValue) (s : State Slot View) : Type 0 where
  pub journal : List JEntry
  pub holder : ℕ
  -- how many seats there are
  pub count : ℕ
  pub word : s.words ≡ (length journal * holders + holder) ∷ []
  pub small : holder < holders
  pub few : count < holders
  pub right : AreRight first.state journal
  -- who has no seat has no entry
  pub new_systems : (n : ℕ) → count ≤ n → entries_of n journal ≡ []
  -- where nobody holds the word, the slot is at home, with the journal and its medium
  pub at_home : holder ≡ 0 → (slot : Slot) × (s.homes ≡ some slot ∷ []) × IsSettled first.state journal slot
  -- else it is out, and some seat holds the word
  pub out : 0 < holder → (s.homes ≡ none ∷ []) × IsHeld s.views
  pub knows : (i : ℕ) (v : View) → Live s.views i v → Knows first journal holder count v
  -- no two seats are of one system, and none is of the system of a seat that was taken in
  pub apart : (i j : ℕ) (v w : View) → Live s.views i v → Live s.views j w → v.system.0 ≡ w.system.0 → i ≡ j
  pub apart_olds : (i j k : ℕ) (v w : View) (o : Past) → Live s.views i v → v.system.0 ≡ 0 → Live s.views j w
      → get_elem? v.olds k ≡ some o → w.system.0 ≢ o.system.0
