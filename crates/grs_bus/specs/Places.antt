-- A place at the table, as a seat of the bus has it.
use Rattle.std.specs.Prelude.{◌≡◌, ℕ, ◌<◌, [], ◌∷◌, false}
use Rattle.atomic_table.specs.declared.shared.Seat.{Seat}
use Rattle.atomic_table.specs.Seated.{TableId}
use Rattle.atomic_table.specs.Table.{Me}
use Rattle.grs_base.specs.declared.resource.SysId.{SysId}
use Rattle.grs_bus.specs.Seats.{SeatValue}
use Rattle.grs_bus.specs.declared.slot.Slot.{Slot}
use Rattle.grs_bus.specs.declared.view.View.{View}

abbrev pub Place : Type 0
Place = Seat Slot View

-- what a seat shows whose table and view are these, and whose last call concerned these systems
abbrev pub seat_of : TableId → View → ℕ → SeatValue
seat_of table v concerned = record {
  bus = record { table = table; first = v.first.state };
  system = v.system;
  own = v.own;
  seen = v.seen;
  takes = v.takes;
  seats = v.given;
  concerned = concerned;
}

-- it is of this system, and has neither the word nor the slot
abbrev pub Rests : Place → SysId → Type 0
Rests p s = (p.me.1 ≡ []) × (p.me.0.system ≡ s) × (p.me.0.spent ≡ false) × (p.me.0.holding ≡ false) × (s.0 < 63)

abbrev pub IsSamePlace : Place → Place → Type 0
IsSamePlace p q = (q.table_id ≡ p.table_id) × (q.id ≡ p.id)

-- it has the slot alone, of which this holds
abbrev pub Holds : Me Slot View → (Slot → Type 0) → Type 0
Holds m P = (slot : Slot) × (m.1 ≡ (0, slot) ∷ []) × P slot
