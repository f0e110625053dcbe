-- What holds of a run that ends at rest: nothing is lost. Each owner of a live system was told, each reply has its
-- line, whoever hasn't ended waits, and the units are reserved that owners reserved.
use Rattle.std.specs.Prelude.{◌≡◌, ◌≢◌, ◌<◌, ◌+◌, ◌-◌, ℕ, Bool, true, false, not, cond, ◌&&◌, ◌||◌, ◌==◌, List, [], ◌∷◌}
use Rattle.std.specs.Prelude.{length, take, filter, Option, Some, None, is_some, slice_get}
use Rattle.std.specs.List.{list_any, count_by, range_with_len}
use Rattle.grs_base.specs.Lists.{owns, has_task}
use Rattle.grs_base.specs.Same.{same_res}
use Rattle.grs_base.specs.State.{State, list_of}
use Rattle.grs_base.specs.declared.decision.Code.{Code}
use Rattle.grs_base.specs.declared.decision.Code.TheVariants.{Wait}
use Rattle.grs_base.specs.declared.resource.Elem.{Elem}
use Rattle.grs_base.specs.declared.resource.Res.{Res}
use Rattle.grs_base.specs.declared.resource.SysId.{SysId}
use Rattle.grs_base.specs.declared.resource.TaskId.{TaskId}
use Rattle.grs_known.specs.Told.{entry_of_line, entries_of_line, queued_last, tells_control, is_code_of}
use Rattle.grs_legal.specs.Asks.{asks_of, lines_of, looks_in}
use Rattle.grs_legal.specs.Legal.{end_among, line_entries, entries_of, last_entry}
use Rattle.grs_legal.specs.declared.meaning.Display.{Display}
use Rattle.grs_legal.specs.declared.meaning.Meaning.{Meaning}
use Rattle.grs_legal.specs.declared.meaning.Meaning.TheVariants as lines
use Rattle.grs_wire.specs.History.{replay}
use Rattle.grs_wire.specs.declared.deck.Deck.{Deck}
use Rattle.grs_wire.specs.declared.deck.Event.{Event}
use Rattle.grs_wire.specs.declared.history.HistEntry.{HistEntry}
use Rattle.grs_wire.specs.declared.history.HistEntry.TheVariants.{Enq, Deq, Release, Look, Remove}
use Rattle.grs_wire.specs.declared.seen.TaskEnd.TheVariants.{Ended, Waits}
use Rattle.grs_wire.specs.declared.told.ToldLine.{ToldLine}
use Rattle.grs_world.specs.Agree.{lines_of_told}
use Rattle.grs_world.specs.Passed.{PassedIsTold}
use Rattle.grs_world.specs.Running.{is_live, at_rest, task_end, units_of}
use Rattle.grs_world.specs.World.{run, hist, told}

-- the lists that a run leaves
abbrev pub lists_after : Deck → List Event → State
lists_after deck es = replay deck.limit (hist deck es)

-- A task of these lines is one of the deck, and its system is live in the end.
pub record IsThere (deck : Deck) (es : List Event) (t : TaskId) (ls : List Meaning) : Type 0 where
  pub lines : lines_of deck t ≡ Some ls
  pub live : is_live (run deck es) t.system ≡ true

-- who owns in the end was told control of the element
abbrev pub OwnersAreTold : Deck → List Event → Type 0
OwnersAreTold deck es =
    (t : TaskId) (ls : List Meaning) (r : Res) → IsThere deck es t ls → owns (list_of (lists_after deck es) r) t ≡ true
    → list_any (tells_control t ls (line_entries t (hist deck es)) r) (lines_of_told (told deck es)) ≡ true

-- whether a code is WAIT
abbrev pub is_waiting : Code → Bool
is_waiting Wait = true
is_waiting code = false

-- whether an entry has a code line without waiting for control: an ENQ that wasn't answered WAIT, or a DEQ
abbrev pub is_coded : HistEntry → Bool
is_coded (Enq t r c ret code) = not (is_waiting code)
is_coded (Deq t r have code) = not (is_waiting code)
is_coded (Release t r) = false
is_coded (Look t place filter rows) = false
is_coded (Remove by target) = false

-- each such entry of a task's line has its code line
abbrev pub RepliesAreTold : Deck → List Event → Type 0
RepliesAreTold deck es =
    (t : TaskId) (ls : List Meaning) (k : ℕ) (h : HistEntry) → IsThere deck es t ls → 0 < k
    → entry_of_line ls (line_entries t (hist deck es)) k ≡ Some h → is_coded h ≡ true
    → list_any (is_code_of t k) (lines_of_told (told deck es)) ≡ true

-- each line that shows lists and whose looks all stand has its rows told
abbrev pub DisplaysAreTold : Deck → List Event → Type 0
DisplaysAreTold deck es =
    (t : TaskId) (ls : List Meaning) (k : ℕ) (d : Display) → IsThere deck es t ls → 0 < k
    → slice_get ls (k - 1) ≡ Some (lines.Shows d)
    → length (entries_of_line ls (line_entries t (hist deck es)) k) ≡ length (looks_in d)
    → list_any (is_code_of t k) (lines_of_told (told deck es)) ≡ true

-- whether an entry waits for control of a resource: an ENQ that was answered WAIT
abbrev pub waits_on : Res → Option HistEntry → Bool
waits_on r None = false
waits_on r (Some (Enq t q c ret code)) = same_res r q && is_waiting code
waits_on r (Some (Deq t q have code)) = false
waits_on r (Some (Release t q)) = false
waits_on r (Some (Look t place filter rows)) = false
waits_on r (Some (Remove by target)) = false

-- whether a line is a WAIT line
abbrev pub is_wait : Option Meaning → Bool
is_wait (Some (lines.Wait q)) = true
is_wait _ = false

-- whether a line is a WAIT line for this resource
abbrev pub waits_at : Res → Option Meaning → Bool
waits_at r (Some (lines.Wait q)) = same_res r q
waits_at r _ = false

-- whether the line of this number is a WAIT line that has no code line among what was told
abbrev pub is_uncoded : TaskId → List Meaning → List ToldLine → ℕ → Bool
is_uncoded t ls lines_told k = is_wait (slice_get ls (k - 1)) && not (list_any (is_code_of t k) lines_told)

-- the number of a task's first WAIT line that has no code line
abbrev pub first_uncoded : TaskId → List Meaning → List ToldLine → Option ℕ
first_uncoded t ls lines_told = slice_get (filter (is_uncoded t ls lines_told) (range_with_len 1 (length ls))) 0

-- whether the line of this number is the next of a task that has these entries: the lines before it asked for them, and
-- none of them ended the task
abbrev pub is_next : List Meaning → List HistEntry → ℕ → Bool
is_next ls entries k = not (is_some (end_among entries)) && (length (asks_of (take (k - 1) ls)) == length entries)

-- whether a task that has these entries stands at the line of this number, and waits there for control of a resource
abbrev pub stands_at : Res → List Meaning → List HistEntry → Option ℕ → Bool
stands_at r ls entries None = false
stands_at r ls entries (Some k) = waits_at r (slice_get ls (k - 1)) && is_next ls entries k

-- whether a task goes on only where it owns a resource: its last entry waits for it, or its first WAIT line without a
-- code line does, and that is its next
abbrev pub goes_on_with : TaskId → List Meaning → List HistEntry → List ToldLine → Res → Bool
goes_on_with t ls hist lines_told r =
    waits_on r (last_entry (entries_of t hist)) || stands_at r ls (line_entries t hist) (first_uncoded t ls lines_told)

-- A task waits for an element that it has and doesn't own, without which it doesn't go on, and is shown to wait.
pub record IsWaiting (deck : Deck) (es : List Event) (t : TaskId) (ls : List Meaning) : Type 0 where
  pub res : Res
  pub held : goes_on_with t ls (hist deck es) (lines_of_told (told deck es)) res ≡ true
  pub queued : has_task (list_of (lists_after deck es) res) t ≡ true
  pub waits : owns (list_of (lists_after deck es) res) t ≡ false
  pub shown : task_end (run deck es).medium.removed (run deck es).nodes t ≡ Waits

-- who hasn't ended waits
abbrev pub TasksWait : Deck → List Event → Type 0
TasksWait deck es =
    (t : TaskId) (ls : List Meaning) → IsThere deck es t ls
    → task_end (run deck es).medium.removed (run deck es).nodes t ≢ Ended → IsWaiting deck es t ls

-- ---- units

-- whether a unit is this one, if there is one
abbrev pub is_unit : ℕ → Option ℕ → Bool
is_unit u None = false
is_unit u (Some v) = u == v

-- whether a line reserves this unit in hardware
abbrev pub reserves : ℕ → Option Meaning → Bool
reserves u (Some (lines.Enq r c ret unit)) = is_unit u unit
reserves u _ = false

-- whether the line of a task that queued its element on a resource reserves a unit
abbrev pub queued_with : ℕ → List Meaning → List HistEntry → Res → Bool
queued_with u ls entries r =
    list_any (λ k. queued_last ls entries r k && reserves u (slice_get ls (k - 1))) (range_with_len 1 (length ls))

-- the same, where the deck may lack the task
abbrev pub queued_with_by : ℕ → Option (List Meaning) → List HistEntry → Res → Bool
queued_with_by u None entries r = false
queued_with_by u (Some ls) entries r = queued_with u ls entries r

-- whether an element is that of an owner, of a task of this system, which a RESERVE of the unit queued
abbrev pub is_reserve : Deck → List HistEntry → SysId → ℕ → Res × Elem → Bool
is_reserve deck hist s u h =
    (h.1.task.system.0 == s.0) && owns (list_of (replay deck.limit hist) h.0) h.1.task
    && queued_with_by u (lines_of deck h.1.task) (line_entries h.1.task hist) h.0

-- the count of a system's unit among counts, 0 where it has none
abbrev pub unit_count : SysId → ℕ → List (SysId × ℕ × ℕ) → ℕ
unit_count s u [] = 0
unit_count s u (c ∷ cs) = cond ((c.0.0 == s.0) && (c.1 == u)) (c.2 + unit_count s u cs) (unit_count s u cs)

-- A unit's count on a live system is that of the owners of its tasks which a RESERVE of the unit queued.
abbrev pub UnitsAreReserved : Deck → List Event → Type 0
UnitsAreReserved deck es = (s : SysId) (u : ℕ) → is_live (run deck es) s ≡ true
    → unit_count s u (units_of (run deck es).nodes)
    ≡ count_by (is_reserve deck (hist deck es) s u) (lists_after deck es)

-- Nothing is lost in a run: what is passed is told, as in every run; owners, replies and displays are told, who hasn't
-- ended waits, and units are reserved.
pub record NothingIsLost (deck : Deck) (es : List Event) : Type 0 where
  pub passed : PassedIsTold deck es
  pub owners : OwnersAreTold deck es
  pub replies : RepliesAreTold deck es
  pub displays : DisplaysAreTold deck es
  pub tasks : TasksWait deck es
  pub units : UnitsAreReserved deck es

-- Where a run is at rest, nothing is lost.
abbrev pub RestsInTheEnd : Deck → List Event → Type 0
RestsInTheEnd deck es = at_rest deck (run deck es) ≡ true → NothingIsLost deck es
