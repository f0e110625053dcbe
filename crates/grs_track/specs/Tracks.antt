-- What is kept of all tasks of a deck behind a history, and which entries may come by that.
use Rattle.std.specs.Prelude.{◌≡◌, ℕ, Bool, true, not, ◌&&◌, ◌==◌, List, [], ◌∷◌, ◌++◌, cond, Option, Some, None, slice_get}
use Rattle.std.specs.List.{flat_map, list_any}
use Rattle.std.specs.Map.{lookup}
use Rattle.grs_base.specs.Same.{same_task}
use Rattle.grs_base.specs.State.{State}
use Rattle.grs_base.specs.declared.line.Line.{Line}
use Rattle.grs_base.specs.declared.resource.SysId.{SysId}
use Rattle.grs_base.specs.declared.resource.TaskId.{TaskId}
use Rattle.grs_wire.specs.History.{is_by, step, replay}
use Rattle.grs_wire.specs.declared.deck.Deck.{Deck}
use Rattle.grs_wire.specs.declared.history.HistEntry.{HistEntry}
use Rattle.grs_wire.specs.declared.history.HistEntry.TheVariants.{Enq, Deq, Release, Look, Remove}
use Rattle.grs_legal.specs.Asks.{lines_in, lines_of, scripts_of}
use Rattle.grs_legal.specs.Legal.{commands_removal, MayStand}
use Rattle.grs_legal.specs.declared.meaning.Meaning.{Meaning}
use Rattle.grs_track.specs.Track.{Track, Kept, new_track, kept_in, track_in, track_of, track_behind, entry_next}
use Rattle.grs_track.specs.Walk.{IsInLines}

-- what is kept: the deck, the lists, the systems that were removed, in the order of their removals, and of each task
-- its track
pub record TracksView : Type 0 where
  pub deck : Deck
  pub lists : State
  pub removed : List SysId
  pub tracks : TaskId → Track

-- what code keeps: the same, with what is kept of the tasks that asked for something
pub record TracksValue : Type 0 where
  pub deck : Deck
  pub lists : State
  pub removed : List SysId
  pub kept : List (TaskId × Kept)

-- what is kept by that of all tasks: of one that isn't listed, what is kept of one that asked for nothing
abbrev pub view_of : TracksValue → TracksView
view_of k = record {
  deck = k.deck;
  lists = k.lists;
  removed = k.removed;
  tracks = λ t. track_in (lookup (same_task t) k.kept);
}

-- the lines of a task, none where the deck hasn't the task
abbrev pub lines_or_none : Option (List Line) → List Line
lines_or_none None = []
lines_or_none (Some ls) = ls

abbrev pub script_of : Deck → TaskId → List Line
script_of deck t = lines_or_none (lines_in (scripts_of deck t.system.0) t)

-- What is kept of each task is so far in its lines as its track says.
abbrev pub AreInLines : Deck → List (TaskId × Kept) → Type 0
AreInLines deck kept = (t : TaskId) → IsInLines (script_of deck t) (kept_in (lookup (same_task t) kept))

-- the system that an entry removes, if it removes one
abbrev pub removed_by : HistEntry → List SysId
removed_by (Enq t r c ret code) = []
removed_by (Deq t r have code) = []
removed_by (Release t r) = []
removed_by (Look t place filter rows) = []
removed_by (Remove by target) = target ∷ []

-- the systems that a history removes, in order
abbrev pub removed_in : List HistEntry → List SysId
removed_in hist = flat_map removed_by hist

-- what a history leaves of all
abbrev pub tracks_of : Deck → List HistEntry → TracksView
tracks_of deck hist = record {
  deck = deck;
  lists = replay deck.limit hist;
  removed = removed_in hist;
  tracks = λ t. track_of t hist;
}

-- This is kept behind a history.
pub record IsBehind (hist : List HistEntry) (v : TracksView) : Type 0 where
  pub lists : v.lists ≡ replay v.deck.limit hist
  pub removed : v.removed ≡ removed_in hist
  pub tracks : (t : TaskId) → v.tracks t ≡ track_of t hist

-- ---- which entries may come

-- whether a system was removed
abbrev pub is_removed : List SysId → SysId → Bool
is_removed removed s = list_any (λ x. s.0 == x.0) removed

-- the entry that a task may ask next which has these lines, if it has any
abbrev pub next_in : ℕ → State → TaskId → Track → Option (List Meaning) → Option HistEntry
next_in limit s t k None = None
next_in limit s t k (Some ls) = entry_next limit s t ls k

-- the one entry that a task may ask next, if it may ask one: its system wasn't removed
abbrev pub next_of : TracksView → TaskId → Option HistEntry
next_of v t =
    cond (is_removed v.removed t.system) None (next_in v.deck.limit v.lists t (v.tracks t) (lines_of v.deck t))

-- whether a system may remove another: neither was removed, and its desk commands it
abbrev pub may_remove : TracksView → SysId → SysId → Bool
may_remove v by target =
    (not (is_removed v.removed by) && not (is_removed v.removed target))
    && (not (target.0 == by.0) && commands_removal target (slice_get v.deck.systems by.0))

-- the removal of a system by another, if it may come
abbrev pub next_removal : TracksView → SysId → SysId → Option HistEntry
next_removal v by target = cond (may_remove v by target) (Some (Remove by target)) None

-- the entry that may come in the place of one: of the same task, or the same removal
abbrev pub next_like : TracksView → HistEntry → Option HistEntry
next_like v (Enq t r c ret code) = next_of v t
next_like v (Deq t r have code) = next_of v t
next_like v (Release t r) = next_of v t
next_like v (Look t place filter rows) = next_of v t
next_like v (Remove by target) = next_removal v by target

-- An entry may come.
abbrev pub MayCome : TracksView → HistEntry → Type 0
MayCome v h = next_like v h ≡ Some h

-- Behind a history an entry may stand exactly where it may come by what is kept.
abbrev pub StandsByTracks : Type 0
StandsByTracks =
    (hist : List HistEntry) (v : TracksView) (h : HistEntry) → IsBehind hist v →
    (MayStand v.deck hist h → MayCome v h) × (MayCome v h → MayStand v.deck hist h)

-- What a task may ask next is an entry of this task, which may come.
abbrev pub NextIsOwn : Type 0
NextIsOwn =
    (v : TracksView) (t : TaskId) (h : HistEntry) → next_of v t ≡ Some h → (is_by t h ≡ true) × MayCome v h

-- ---- one more entry

-- what is kept of a task behind an entry: another's leaves it
abbrev pub track_after : TaskId → Track → HistEntry → Track
track_after t k h = cond (is_by t h) (track_behind k h) k

-- This is kept behind one more entry.
pub record GoesOn (v : TracksView) (h : HistEntry) (v' : TracksView) : Type 0 where
  pub deck : v'.deck ≡ v.deck
  pub lists : v'.lists ≡ step v.deck.limit v.lists h
  pub removed : v'.removed ≡ v.removed ++ removed_by h
  pub tracks : (t : TaskId) → v'.tracks t ≡ track_after t (v.tracks t) h

-- What is kept behind one more entry is what the longer history leaves.
abbrev pub LongerByTracks : Type 0
LongerByTracks =
    (hist : List HistEntry) (v v' : TracksView) (h : HistEntry) → IsBehind hist v → GoesOn v h v'
    → IsBehind (hist ++ h ∷ []) v'

-- Behind no entry nothing is kept.
abbrev pub BeginsByTracks : Type 0
BeginsByTracks =
    (v : TracksView) → v.lists ≡ [] → v.removed ≡ [] → ((t : TaskId) → v.tracks t ≡ new_track) → IsBehind [] v
