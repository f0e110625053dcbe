-- What a round does to its workers.
use Rattle.std.specs.Prelude.{◌≡◌, ◌+◌, ◌<◌, ℕ, List, ◌++◌, length, slice_index_or, Bool, true, false, Result, Ok, Err}
use Rattle.std.specs.Prelude.{IfOk}
use Rattle.std.specs.List.{list_any}
use Rattle.grs_base.specs.declared.fault.NoMemory.{NoMemory}
use Rattle.grs_bus.specs.Seats.{BusValue, IsSameSeat}
use Rattle.grs_workers.specs.Makes.{Makes}
use Rattle.grs_wire.specs.declared.log.StepDone.{StepDone}
use Rattle.grs_wire.specs.declared.medium.JEntry.{JEntry}
use Rattle.grs_workers.specs.Stands.{Stand, stand, quiet_steps, IsOn, Agrees, Deed, is_last, IsDone, Does}
use Rattle.grs_workers.specs.declared.worker.Worker.{Worker}

-- how many events a worker makes in a round at most
abbrev pub most_events : ℕ
most_events = 64

-- how often a worker's seat took the word, and how many steps of its log made no call
abbrev pub made : Stand → ℕ
made v = v.seat.takes + quiet_steps v.node.log

-- The events of a round end with one that was answered Over or Removed, or there are as many as a round has: the worker
-- stands at u before it, and at w in the end.
abbrev pub Ends : Bool → List Deed → Stand → Stand → Type 0
Ends true before u w = (d : Deed) × IsDone u d w × (is_last d ≡ true) × (length before < most_events)
Ends false before u w = (w ≡ u) × (length before ≡ most_events)

-- A round of a worker, which was answered Over or Removed in it, or wasn't. Behind such an answer it makes no event.
pub record Went (v : Stand) (out : Bool) (w : Stand) : Type 0 where
  pub before : List Deed
  pub between : Stand
  pub does : Does v before between
  pub none_last : list_any is_last before ≡ false
  pub ends : Ends out before between w
  -- where it wasn't, its takes and the quiet steps of its log are as many more as a round has
  pub count : out ≡ false → made w ≡ made v + most_events

-- What a worker's log and its seat's own have more: the new steps lead from its system before to its system afterwards,
-- and the journalled ones have the seat's new entries, in order.
pub record Grew (v w : Stand) : Type 0 where
  pub seat : IsSameSeat v.seat w.seat
  pub deck : w.node.deck ≡ v.node.deck
  pub steps : List StepDone
  pub entries : List JEntry
  pub log : w.node.log ≡ v.node.log ++ steps
  pub own : w.seat.own ≡ v.seat.own ++ entries
  pub makes : Makes v.node.deck v.node.node steps entries w.node.node

-- whether the outcome of a round or a stretch is that the worker was answered Over or Removed
abbrev pub is_out : Result Bool NoMemory → Bool
is_out (Ok out) = out
is_out (Err e) = false

-- a worker's round, unless memory was wanting in it
abbrev pub HasWorked : BusValue → Worker → Worker → Type 0
HasWorked b v w = IfOk w.outcome (λ out. Went (stand v) out (stand w) × IsOn b (stand w) × Agrees (stand w))

-- a worker's stretch, unless memory was wanting in it
abbrev pub HasMoved : BusValue → Worker → Worker → Type 0
HasMoved b v w = IfOk w.outcome (λ out. Grew (stand v) (stand w) × IsOn b (stand w) × Agrees (stand w))

-- what holds of each worker before and after a round
abbrev pub Each : (Worker → Worker → Type 0) → List Worker → List Worker → Type 0
Each P vs ws = (i : ℕ) (d : Worker) → i < length vs → P (slice_index_or vs i d) (slice_index_or ws i d)
