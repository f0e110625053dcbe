-- What a bus and its seats show, and what a call does to a seat.
use Rattle.std.specs.Prelude.{◌≡◌, ℕ, ◌<◌, List, [], ◌∷◌, ◌++◌, length, Bool, cond}
use mathlib.Core.Option.{some}
use lib.ListN.{get_elem?}
use Rattle.atomic_table.specs.Seated.{TableId}
use Rattle.grs_base.specs.declared.resource.SysId.{SysId}
use Rattle.grs_wire.specs.declared.medium.Call.{Call}
use Rattle.grs_wire.specs.declared.medium.JEntry.{JEntry}
use Rattle.grs_wire.specs.declared.medium.Reply.{Reply}
use Rattle.grs_medium.specs.Apply.{reply_to}
use Rattle.grs_medium.specs.Medium.{MediumState}
use Rattle.grs_bus.specs.Journal.{is_entered, concerned_by, entry_of, after_all, AreRight, entries_of, Begins}

-- a bus: which one it is, and its medium at the start
pub record BusValue : Type 0 where
  pub table : TableId
  pub first : MediumState

-- A seat: its bus and its system; `own` are the entries of its system so far, `seen` is the longest journal that it
-- has seen, and `takes` is how often it took the word. `seats` counts the seats of the bus, at the first seat alone.
-- `concerned` is the set of the systems that its last call concerned.
pub record SeatValue : Type 0 where
  pub bus : BusValue
  pub system : SysId
  pub own : List JEntry
  pub seen : List JEntry
  pub takes : ℕ
  pub seats : ℕ
  pub concerned : ℕ

-- the same seat, whatever it has seen and done
abbrev pub IsSameSeat : SeatValue → SeatValue → Type 0
IsSameSeat v w = (w.bus ≡ v.bus) × (w.system ≡ v.system) × (w.seats ≡ v.seats)

-- The journal where a seat takes the word.
pub record IsTaken (v : SeatValue) (journal : List JEntry) : Type 0 where
  -- it begins with all that the seat had seen
  pub seen : Begins v.seen journal
  -- its entries of the seat's system are the seat's own
  pub own : v.own ≡ entries_of v.system.0 journal
  -- it is right from the first medium on
  pub right : AreRight v.bus.first journal

-- with the entry of a call last, where it is entered
abbrev pub with_entry : List JEntry → SysId → Call → Reply × Bool → List JEntry
with_entry journal c call told = cond told.1 (journal ++ entry_of c call told.0 ∷ []) journal

-- What an answered call does to its seat: told the reply, and whether the call was entered, it goes from v to w.
pub record IsAnswered (v : SeatValue) (call : Call) (told : Reply × Bool) (w : SeatValue) : Type 0 where
  -- the journal where the seat took the word
  pub journal : List JEntry
  pub taken : IsTaken v journal
  -- the reply is the medium's to which that journal leads
  pub reply : told.0 ≡ reply_to (after_all v.bus.first journal) v.system call
  -- the seat is told that the call was entered exactly where it is one that is
  pub entered : told.1 ≡ is_entered (after_all v.bus.first journal) v.system call
  -- an entered call joins the seat's own, and the journal
  pub own : w.own ≡ with_entry v.own v.system call told
  pub seen : w.seen ≡ with_entry journal v.system call told
  -- the seat tells whom the call concerned
  pub concerned : w.concerned ≡ concerned_by (after_all v.bus.first journal) v.system call

-- What a call does to its seat for which there was no memory: it has seen the journal, nothing joined it, and nobody is
-- concerned.
pub record IsRefused (v w : SeatValue) : Type 0 where
  -- the journal where the seat took the word
  pub journal : List JEntry
  pub taken : IsTaken v journal
  pub own : w.own ≡ v.own
  pub seen : w.seen ≡ journal
  pub concerned : w.concerned ≡ 0

-- what holds of each seat of a list
abbrev pub AllSeats : (SeatValue → Type 0) → List SeatValue → Type 0
AllSeats P seats = (i : ℕ) (v : SeatValue) → get_elem? seats i ≡ some v → P v

-- all seats of a bus, in the order of their systems
pub record AreTheSeats (b : BusValue) (seats : List SeatValue) : Type 0 where
  pub some_seat : 0 < length seats
  pub each : (i : ℕ) (v : SeatValue) → get_elem? seats i ≡ some v → (v.bus ≡ b) × (v.system.0 ≡ i)
  pub count : (v : SeatValue) → get_elem? seats 0 ≡ some v → v.seats ≡ length seats

-- a seat that nothing was done with yet
abbrev pub IsNew : SeatValue → Type 0
IsNew v = (v.own ≡ []) × (v.seen ≡ []) × (v.takes ≡ 0) × (v.concerned ≡ 0)

-- a seat whose own are just the journal's entries of its system, and with whose longest journal this one begins
abbrev pub Agrees : List JEntry → SeatValue → Type 0
Agrees journal v = (v.own ≡ entries_of v.system.0 journal) × Begins v.seen journal
