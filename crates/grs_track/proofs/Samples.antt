-- Worked histories, by which the definitions are checked: what comes next behind them, and what doesn't.
use Rattle.std.proofs.Common.{◌≡◌, ℕ, true, false, List, [], ◌∷◌, ◌++◌, Option, Some, None, refl, arith}
use Rattle.grs_base.specs.declared.decision.Code.{Code}
use Rattle.grs_base.specs.declared.decision.Code.TheVariants.{C00, C04, Wait, End}
use Rattle.grs_base.specs.declared.line.Line.{Line}
use Rattle.grs_base.specs.declared.line.Line.TheVariants as texts
use Rattle.grs_base.specs.declared.line.Scope.TheVariants as scopes
use Rattle.grs_base.specs.declared.look.Filter.{Filter}
use Rattle.grs_base.specs.declared.look.Filter.TheVariants as filters
use Rattle.grs_base.specs.declared.look.Place.TheVariants as places
use Rattle.grs_base.specs.declared.resource.Ctl.TheVariants.{E}
use Rattle.grs_base.specs.declared.resource.Res.{Res}
use Rattle.grs_base.specs.declared.resource.Res.TheVariants as kinds
use Rattle.grs_base.specs.declared.resource.Ret.{Ret}
use Rattle.grs_base.specs.declared.resource.Ret.TheVariants.{RetNone, RetEcb}
use Rattle.grs_base.specs.declared.resource.Row.{Row}
use Rattle.grs_base.specs.declared.resource.SysId.{SysId}
use Rattle.grs_base.specs.declared.resource.TaskId.{TaskId}
use Rattle.grs_base.specs.declared.rnl.Which.TheVariants as which
use Rattle.grs_base.specs.Rnl.{no_entries}
use Rattle.grs_wire.specs.declared.deck.Deck.{Deck}
use Rattle.grs_wire.specs.declared.deck.Order.TheVariants as orders
use Rattle.grs_wire.specs.declared.history.HistEntry.{HistEntry}
use Rattle.grs_wire.specs.declared.history.HistEntry.TheVariants.{Enq, Deq, Release, Look, Remove}
use Rattle.grs_track.specs.Track.{track_of}
use Rattle.grs_track.specs.Tracks.{tracks_of, next_of, next_removal, MayCome}

abbrev system : ℕ → SysId
system n = record { 0 = n }

-- the tasks of the first system, which are of one job
abbrev task : ℕ → TaskId
task n = record { system = system 0; job = 0; task = n }

-- lines that ask for (A, r) of the system, give it back, and wait for it; and one that shows (A, r) of the complex
abbrev asks : ℕ → Ret → Line
asks r ret =
    texts.Enq (record { ctl = E; scope = scopes.System; q = 65 ∷ []; r = r ∷ [] } ∷ []) ret true

abbrev gives : ℕ → Line
gives r = texts.Deq (65 ∷ []) (r ∷ []) scopes.System false None true

abbrev waits : ℕ → Line
waits r = texts.Wait (65 ∷ []) (r ∷ []) scopes.System true

abbrev shows : Line
shows = texts.DisplayRes (65 ∷ []) (66 ∷ [])

-- A deck of two systems. The first has five tasks in a job, and the desk of the second removes the first.
abbrev deck : Deck
deck = record {
  star = false;
  entries = 1;
  limit = 9;
  lists = record { incl = no_entries which.Incl; excl = no_entries which.Excl; con = no_entries which.Con };
  systems = record {
    name = 65 ∷ [];
    desk = [];
    jobs = record {
      name = 74 ∷ [];
      tasks = record { name = 48 ∷ []; lines = waits 66 ∷ asks 66 RetNone ∷ gives 66 ∷ [] }
          ∷ record { name = 49 ∷ []; lines = asks 66 RetNone ∷ gives 66 ∷ [] }
          ∷ record { name = 50 ∷ []; lines = asks 66 RetEcb ∷ waits 66 ∷ gives 66 ∷ [] }
          ∷ record { name = 51 ∷ []; lines = asks 67 RetNone ∷ asks 68 RetNone ∷ gives 69 ∷ gives 67 ∷ [] }
          ∷ record { name = 52 ∷ []; lines = shows ∷ asks 69 RetNone ∷ [] }
          ∷ [];
    } ∷ [];
  }
      ∷ record {
        name = 66 ∷ [];
        desk = record { at = 0; order = orders.Vary (system 0) } ∷ [];
        jobs = [];
      }
      ∷ [];
  events = [];
}

-- the resource (A, r) of the first system, and entries on it
abbrev res : ℕ → Res
res r = kinds.System (system 0) (65 ∷ []) (r ∷ [])

abbrev enq : ℕ → ℕ → Ret → Code → HistEntry
enq n r ret code = Enq (task n) (res r) E ret code

abbrev deq : ℕ → ℕ → Code → HistEntry
deq n r code = Deq (task n) (res r) false code

-- what a task asks next behind a history
abbrev next : ℕ → List HistEntry → Option HistEntry
next n hist = next_of (tracks_of deck hist) (task n)

-- ---- the next line, with the reply of the lists; a WAIT for what a task has no element of lets it pass
first_line : next 0 [] ≡ Some (enq 0 66 RetNone C00)
first_line = refl

next_line : next 0 (enq 0 66 RetNone C00 ∷ []) ≡ Some (deq 0 66 C00)
next_line = refl

no_line_left : next 0 (enq 0 66 RetNone C00 ∷ deq 0 66 C00 ∷ []) ≡ None
no_line_left = refl

-- with another reply nothing comes
other_reply : MayCome (tracks_of deck []) (enq 0 66 RetNone C04) → ⊥
other_reply m = let e : Some (enq 0 66 RetNone C00) ≡ Some (enq 0 66 RetNone C04) = m in absurd (cc)

-- nor does a task of another job, or a sixth one
no_such_task : next_of (tracks_of deck []) (record { system = system 0; job = 1; task = 0 }) ≡ None
no_such_task = refl

no_sixth_task : next 5 [] ≡ None
no_sixth_task = refl

-- ---- a task that was answered WAIT, before control and behind it
abbrev waiting : List HistEntry
waiting = enq 0 66 RetNone C00 ∷ enq 1 66 RetNone Wait ∷ []

kept_waiting : track_of (task 1) waiting ≡ record { asked = 1; ended = false; waits = Some (res 66) }
kept_waiting = refl

without_control : next 1 waiting ≡ None
without_control = refl

with_control : next 1 (waiting ++ deq 0 66 C00 ∷ []) ≡ Some (deq 1 66 C00)
with_control = refl

-- ---- a WAIT line, before control and behind it
abbrev queued : List HistEntry
queued = enq 0 66 RetNone C00 ∷ enq 2 66 RetEcb C04 ∷ []

kept_queued : track_of (task 2) queued ≡ record { asked = 1; ended = false; waits = None }
kept_queued = refl

not_waited_for : next 2 queued ≡ None
not_waited_for = refl

waited_for : next 2 (queued ++ deq 0 66 C00 ∷ []) ≡ Some (deq 2 66 C00)
waited_for = refl

-- ---- an end, and the releases behind it in the order in which the elements were queued
abbrev ended : List HistEntry
ended = enq 3 67 RetNone C00 ∷ enq 3 68 RetNone C00 ∷ deq 3 69 (End 130) ∷ []

ends : next 3 (enq 3 67 RetNone C00 ∷ enq 3 68 RetNone C00 ∷ []) ≡ Some (deq 3 69 (End 130))
ends = refl

kept_ended : track_of (task 3) ended ≡ record { asked = 3; ended = true; waits = None }
kept_ended = refl

first_released : next 3 ended ≡ Some (Release (task 3) (res 67))
first_released = refl

then_released : next 3 (ended ++ Release (task 3) (res 67) ∷ []) ≡ Some (Release (task 3) (res 68))
then_released = refl

all_released : next 3 (ended ++ Release (task 3) (res 67) ∷ Release (task 3) (res 68) ∷ []) ≡ None
all_released = refl

other_order : MayCome (tracks_of deck ended) (Release (task 3) (res 68)) → ⊥
other_order m =
    let e : Some (Release (task 3) (res 67)) ≡ Some (Release (task 3) (res 68)) = m in
    let a : ℕ = 67 in
    let b : ℕ = 68 in
    let f : a ≡ b = cc in
    absurd (omega (arith, f))

-- ---- a display's looks, one after the other, then its next line
abbrev named_so : Filter
named_so = filters.Named (Some (65 ∷ [])) (Some (66 ∷ []))

abbrev home : List Row → HistEntry
home rows = Look (task 4) (places.Local (system 0)) named_so rows

abbrev around : HistEntry
around = Look (task 4) (places.Slice 52) named_so []

-- the rows that a look shows are those of the lists
abbrev held_row : Row
held_row = record { res = res 66; elems = record { task = task 0; ctl = E } ∷ []; owners = 1 }

looks_home : next 4 [] ≡ Some (home [])
looks_home = refl

looks_home_held : next 4 (enq 0 66 RetNone C00 ∷ []) ≡ Some (home (held_row ∷ []))
looks_home_held = refl

looks_around : next 4 (home [] ∷ []) ≡ Some around
looks_around = refl

looked : next 4 (home [] ∷ around ∷ []) ≡ Some (enq 4 69 RetNone C00)
looked = refl

-- behind its last line it gives back what it has
looked_and_ends : next 4 (home [] ∷ around ∷ enq 4 69 RetNone C00 ∷ []) ≡ Some (Release (task 4) (res 69))
looked_and_ends = refl

-- ---- removals
-- of a system that was removed nothing comes, whatever its tasks had left
removed_asks : next 0 (Remove (system 1) (system 0) ∷ []) ≡ None
removed_asks = refl

-- what a desk has may come once, and nothing else
desk_removes : next_removal (tracks_of deck []) (system 1) (system 0) ≡ Some (Remove (system 1) (system 0))
desk_removes = refl

removed_before : next_removal (tracks_of deck (Remove (system 1) (system 0) ∷ [])) (system 1) (system 0) ≡ None
removed_before = refl

not_commanded : next_removal (tracks_of deck []) (system 0) (system 1) ≡ None
not_commanded = refl

removes_itself : next_removal (tracks_of deck []) (system 1) (system 1) ≡ None
removes_itself = refl

no_such_system : next_removal (tracks_of deck []) (system 2) (system 0) ≡ None
no_such_system = refl
