-- A system that stops: the events without it, and the lap that the message goes once it was removed.
use Rattle.std.specs.Prelude.{◌≡◌, ◌<◌, ◌≤◌, ℕ, zero, suc, ◌+◌, ◌-◌, ◌*◌, ◌==◌, Bool, true, false, cond, not, ◌&&◌}
use Rattle.std.specs.Prelude.{List, [], ◌∷◌, ◌++◌, length, filter, Contains, Option, Some, None}
use Rattle.grs_base.specs.declared.resource.SysId.{SysId}
use Rattle.grs_wire.specs.Masks.{has}
use Rattle.grs_wire.specs.declared.deck.Choice.TheVariants.{Turn}
use Rattle.grs_wire.specs.declared.deck.Deck.{Deck}
use Rattle.grs_wire.specs.declared.deck.Event.{Event}
use Rattle.grs_wire.specs.declared.medium.Reply.{Reply}
use Rattle.grs_wire.specs.declared.medium.Reply.TheVariants.{Turned}
use Rattle.grs_wire.specs.declared.medium.RingEntry.{RingEntry}
use Rattle.grs_world.specs.Removing.{reply_of}
use Rattle.grs_world.specs.Running.{is_live}
use Rattle.grs_world.specs.World.{World, happens, run, run_from}

-- These events without those that a system makes behind its first so many.
abbrev pub cut : SysId → ℕ → List Event → List Event
cut s zero es = filter (λ e. not (e.system.0 == s.0)) es
cut s (suc n) [] = []
cut s (suc n) (e ∷ es) = e ∷ cut s (cond (e.system.0 == s.0) n (suc n)) es

-- how many a system has left behind an event, of so many before it; the event isn't made where it is the system's and
-- none is left
unfoldable pub left_of : SysId → ℕ → Event → Option ℕ
left_of s n e = cond (e.system.0 == s.0) (cond (n == 0) None (Some (n - 1))) (Some n)

-- ---- a lap
-- how many of the systems below a number aren't removed
abbrev pub live_below : ℕ → ℕ → ℕ
live_below removed zero = 0
live_below removed (suc s) = live_below removed s + cond (has removed s) 0 1

abbrev pub live_count : World → ℕ
live_count w = live_below w.medium.removed (length w.nodes)

abbrev pub turn_of : SysId → Event
turn_of s = record { system = s; choice = Turn }

-- whether a call was made and got to the message
abbrev pub is_turned : Option Reply → Bool
is_turned (Some (Turned entries taken closed)) = true
is_turned _ = false

-- how many of so many Turns at the message are left behind a Turn of this system
abbrev pub left_behind : Deck → World → SysId → ℕ → ℕ
left_behind deck w s left = cond (is_turned (reply_of deck w (turn_of s))) (left - 1) left

-- the system that goes on where so many are left: the one at which the message stands
abbrev pub next_of : ℕ → World → Option SysId
next_of zero w = None
next_of (suc left) w = w.medium.message.holder

-- The Turns of a lap, at most so many, of which so many still have to get to the message. This system has the next.
abbrev pub lap_from : Deck → ℕ → ℕ → World → Option SysId → List Event
lap_from deck zero left w at = []
lap_from deck (suc most) left w None = []
lap_from deck (suc most) left w (Some s) =
    let next = happens deck w (turn_of s) in
    let after = left_behind deck w s left in
    turn_of s ∷ lap_from deck most after next (next_of after next)

-- A lap: Turns, each of the system at which the message stands, until as many got to the message as there are live
-- systems. A Turn whose system has yet to be told which systems were removed doesn't, so there are at most twice as
-- many.
abbrev pub lap : Deck → World → List Event
lap deck w = lap_from deck (2 * live_count w) (live_count w) w (next_of (live_count w) w)

-- ---- what a lap comes to
-- how many of these events get to the message in a run from this world
abbrev pub turned_in : Deck → World → List Event → ℕ
turned_in deck w [] = 0
turned_in deck w (e ∷ es) = cond (is_turned (reply_of deck w e)) 1 0 + turned_in deck (happens deck w e) es

-- Each of these events is the Turn of the system at which the message then stands.
abbrev pub AreAtMessage : Deck → World → List Event → Type 0
AreAtMessage deck w [] = Unit {0}
AreAtMessage deck w (e ∷ es) =
    ((s : SysId) × (w.medium.message.holder ≡ Some s) × (e ≡ turn_of s)) × AreAtMessage deck (happens deck w e) es

-- A lap in this world: it ends with as many Turns at the message as there are live systems, and leaves none of the
-- entries that stood in the message before. These have the numbers below that of the next.
pub record LapEnds (deck : Deck) (w : World) : Type 0 where
  pub stands : AreAtMessage deck w (lap deck w)
  pub turned : turned_in deck w (lap deck w) ≡ live_count w
  pub before : (x : RingEntry) → Contains w.medium.message.entries x → x.number < w.medium.message.next
  pub behind : (x : RingEntry) → Contains (run_from deck w (lap deck w)).medium.message.entries x
      → w.medium.message.next ≤ x.number

-- So it is behind these events, in ring mode, where some system is live.
abbrev pub LapsEnd : Deck → List Event → Type 0
LapsEnd deck es =
    (s : SysId) → (run deck es).medium.star ≡ false → is_live (run deck es) s ≡ true → LapEnds deck (run deck es)

-- ---- a run with a system that stops
-- whether a lap is gone behind the events: in ring mode, where the system was removed
abbrev pub goes_lap : SysId → World → Bool
goes_lap s w = not w.medium.star && has w.medium.removed s.0

-- What these events of a deck come to where a system stops behind its first so many: those that are left, and a lap
-- where it was removed.
abbrev pub stopped : Deck → SysId → ℕ → List Event → List Event
stopped deck s n es =
    let left = cut s n es in left ++ cond (goes_lap s (run deck left)) (lap deck (run deck left)) []
