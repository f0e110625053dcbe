-- What taking the word and giving it back tell their seat.
use Rattle.std.specs.Prelude.{◌≡◌, ◌≢◌, ℕ, ◌+◌, ◌*◌, ◌⊎◌, List, [], ◌∷◌, ◌++◌, length, true, false}
use Rattle.atomic_table.specs.Table.{Me, Step}
use Rattle.grs_wire.specs.declared.medium.JEntry.{JEntry}
use Rattle.grs_bus.specs.Journal.{holders, after_all, AreRight, entries_of, Begins}
use Rattle.grs_bus.specs.Rule.{changed, IsSettled}
use Rattle.grs_bus.specs.declared.slot.Slot.{Slot}
use Rattle.grs_bus.specs.declared.view.View.{View}

-- the view of a seat that took the word at this journal
abbrev pub taken : View → List JEntry → View
taken v journal = changed v v.own journal (v.takes + 1) true

-- the view of a seat that gave the word back with this journal
abbrev pub given_back : View → List JEntry → View
given_back v journal = changed v (entries_of v.system.0 journal) journal v.takes false

-- What a seat has that took the word, which was `old`.
pub record Took (old : ℕ) (m m' : Me Slot View) : Type 0 where
  pub slot : Slot
  pub journal : List JEntry
  pub me : m' ≡ (taken m.0 journal, (0, slot) ∷ m.1)
  -- the journal begins with what the seat had seen
  pub longer : Begins m.0.seen journal
  pub settled : IsSettled m.0.first.state journal slot
  pub right : AreRight m.0.first.state journal
  -- the seat's own are the journal's entries of its system
  pub own : m.0.own ≡ entries_of m.0.system.0 journal
  pub size : length journal * holders ≡ old

-- the word is taken where it was the one that was awaited
abbrev pub took : Step Slot → Me Slot View → ℕ → Me Slot View → Type 0
took st m r m' = (r ≡ st.first → Took st.first m m') × (r ≢ st.first → m' ≡ m)

abbrev pub gave : Step Slot → Me Slot View → ℕ → Me Slot View → Type 0
gave st m r m' = (slot : Slot) → m.1 ≡ (0, slot) ∷ [] → m' ≡ (given_back m.0 slot.journal.items, [])

-- The slot may come home: its medium is the one to which its journal leads, which is right, and which is the journal
-- that the seat took, or that with one entry more, of the seat's system.
pub record MayComeHome (v : View) (slot : Slot) : Type 0 where
  pub medium : slot.medium.state ≡ after_all v.first.state slot.journal.items
  pub right : AreRight v.first.state slot.journal.items
  pub more : (slot.journal.items ≡ v.seen)
      ⊎ ((e : JEntry) × (slot.journal.items ≡ v.seen ++ e ∷ []) × (e.system ≡ v.system))
