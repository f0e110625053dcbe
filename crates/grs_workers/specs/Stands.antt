-- Where a worker stands, what its system may do next, and what one event of it does.
use Rattle.std.specs.Prelude.{◌≡◌, ◌≢◌, ◌⊎◌, ◌+◌, ◌-◌, ◌^◌, ◌<◌, ℕ, min, not, ◌&&◌, List, [], ◌∷◌, length}
use Rattle.std.specs.Prelude.{Bool, true, false, Option, Some, None}
use Rattle.std.specs.List.{count_by}
use Rattle.grs_bus.specs.Seats.{BusValue, SeatValue, IsSameSeat, IsAnswered, IsRefused}
use Rattle.grs_medium.specs.Medium.{systems_of}
use Rattle.grs_node.specs.Addressed.{is_addressed}
use Rattle.grs_node.specs.Log.{NodeView, shown, starting, finished}
use Rattle.grs_node.specs.Node.{is_pending, prepare}
use Rattle.grs_node.specs.Room.{HasRoomFor, is_call, takes_no_memory}
use Rattle.grs_node.specs.declared.prepared.Prepared.{Prepared}
use Rattle.grs_node.specs.declared.prepared.Prepared.TheVariants.{Nothing, Quiet, Call}
use Rattle.grs_wire.specs.declared.deck.Choice.{Choice}
use Rattle.grs_wire.specs.declared.deck.Choice.TheVariants.{Leave}
use Rattle.grs_wire.specs.declared.deck.Deck.{Deck}
use Rattle.grs_wire.specs.declared.log.StepDone.{StepDone}
use Rattle.grs_wire.specs.declared.medium.Call.{Call as MediumCall}
use Rattle.grs_wire.specs.declared.medium.Reply.{Reply}
use Rattle.grs_wire.specs.declared.medium.Reply.TheVariants.{Over, Removed}
use Rattle.grs_workers.specs.declared.worker.Worker.{Worker}

-- a worker without what it chooses its events by
pub record Stand : Type 0 where
  pub node : NodeView
  pub seat : SeatValue
  pub calls : ℕ

abbrev pub stand : Worker → Stand
stand w = record { node = shown w.node; seat = w.seat; calls = w.calls }

-- the worker of a deck with this seat before its first round
abbrev pub first_stand : Deck → SeatValue → Stand
first_stand deck seat = record { node = starting deck seat.system.0; seat = seat; calls = 0 }

abbrev pub journalled_steps : List StepDone → ℕ
journalled_steps log = count_by (λ x. x.journalled) log

abbrev pub quiet_steps : List StepDone → ℕ
quiet_steps log = count_by (λ x. not x.journalled) log

-- A worker at the bus: its seat is one of the bus, of a system that the medium of the bus has, and its system is of a
-- deck with as many systems and lock entries as that medium has.
pub record IsOn (b : BusValue) (v : Stand) : Type 0 where
  pub seat : v.seat.bus ≡ b
  pub caller : v.seat.system.0 < systems_of b.first
  pub systems : systems_of b.first ≡ length v.node.deck.systems
  pub entries : length b.first.words ≡ v.node.deck.entries

-- A worker that agrees: seat and system are of one number, and the seat has as many entries as the system's log has
-- journalled steps.
pub record Agrees (v : Stand) : Type 0 where
  pub system : v.seat.system.0 ≡ v.node.node.tasks.system
  pub entries : length v.seat.own ≡ journalled_steps v.node.log

-- An event of a worker: its choice, and where it made a call, the reply, and whether the call was entered.
pub record Deed : Type 0 where
  pub choice : Choice
  pub told : Option (Reply × Bool)

-- whether a reply ends the round of its worker
abbrev pub is_last_reply : Reply → Bool
is_last_reply Over = true
is_last_reply Removed = true
is_last_reply reply = false

abbrev pub is_last_of : Option (Reply × Bool) → Bool
is_last_of None = false
is_last_of (Some told) = is_last_reply told.0

abbrev pub is_last : Deed → Bool
is_last d = is_last_of d.told

-- whether a choice gives interest in a lock entry up
abbrev pub is_leave : Choice → Bool
is_leave (Leave e) = true
is_leave choice = false

-- whether it does so while something is pending
abbrev pub is_early : NodeView → Choice → Bool
is_early v choice = is_leave choice && is_pending v.deck v.node

-- the same system, whatever it has ready
abbrev pub IsSameNode : NodeView → NodeView → Type 0
IsSameNode v w = (w.deck ≡ v.deck) × (w.node ≡ v.node) × (w.log ≡ v.log)

-- What a system may do as it stands: a choice, with what it comes to, which is something. A call goes to a system of
-- the deck and to a lock entry that there is, and there is room for a reply to it by which little happens. Interest in
-- a lock entry is given up only where nothing is pending.
pub record MayDo (v : NodeView) (x : Choice × Prepared) : Type 0 where
  pub prepared : x.1 ≡ prepare v.deck v.node x.0
  pub some : x.1 ≢ Nothing
  pub addressed : is_addressed v.deck v.node.tasks.system x.1 ≡ true
  pub room : is_call x.1 ≡ true → HasRoomFor v x.0
  pub in_time : is_early v x.0 ≡ false

-- An event without a call.
pub record IsAlone (v : Stand) (choice : Choice) (w : Stand) : Type 0 where
  pub prepared : prepare v.node.deck v.node.node choice ≡ Quiet
  pub node : w.node ≡ finished v.node choice None
  pub seat : w.seat ≡ v.seat
  pub calls : w.calls ≡ v.calls

-- An event with a call, which was told this: the seat made the call and was answered, and the system was finished with
-- what it was told. Interest in a lock entry is given up only where nothing is pending.
pub record IsCalled (v : Stand) (choice : Choice) (told : Reply × Bool) (w : Stand) : Type 0 where
  pub in_time : is_early v.node choice ≡ false
  pub call : MediumCall
  pub prepared : prepare v.node.deck v.node.node choice ≡ Call call
  pub same : IsSameSeat v.seat w.seat
  pub takes : w.seat.takes ≡ v.seat.takes + 1
  pub answered : IsAnswered v.seat call told w.seat
  pub node : w.node ≡ finished v.node choice (Some told)
  pub calls : w.calls ≡ min (v.calls + 1) (2 ^ 64 - 1)

abbrev pub IsDoneBy : Stand → Choice → Option (Reply × Bool) → Stand → Type 0
IsDoneBy v choice None w = IsAlone v choice w
IsDoneBy v choice (Some told) w = IsCalled v choice told w

-- For an event with this call memory was wanting: for the call, or behind it for a reply that was entered and for which
-- its system takes memory though there is room.
abbrev pub IsGivenUp : Stand → MediumCall → SeatValue → Type 0
IsGivenUp v call after =
    IsRefused v.seat after
    ⊎ ((told : Reply × Bool) × IsAnswered v.seat call told after × (told.1 ≡ true)
    × (takes_no_memory v.node.node told.0 ≡ false))

-- one event leads from v to w
abbrev pub IsDone : Stand → Deed → Stand → Type 0
IsDone v d w = IsDoneBy v d.choice d.told w

-- events lead from v to w, one after the other
abbrev pub Does : Stand → List Deed → Stand → Type 0
Does v [] w = w ≡ v
Does v (d ∷ ds) w = (u : Stand) × IsDone v d u × Does u ds w
