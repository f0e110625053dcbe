-- What is kept of one task behind a history, and what the task asks next by that.
use Rattle.std.specs.Prelude.{ℕ, suc, Bool, true, false, ◌&&◌, ◌||◌, List, [], length, cond, Option, Some}
use Rattle.std.specs.Prelude.{None, slice_get, is_some}
use Rattle.std.specs.List.{list_all}
use Rattle.std.specs.Option.{option_or, option_map}
use Rattle.grs_base.specs.Lists.{owns}
use Rattle.grs_base.specs.Looks.{look}
use Rattle.grs_base.specs.State.{State, list_of, queued_by, is_full, enq_code, deq_reply}
use Rattle.grs_base.specs.declared.decision.Code.{Code}
use Rattle.grs_base.specs.declared.decision.Code.TheVariants.{Wait}
use Rattle.grs_base.specs.declared.resource.Res.{Res}
use Rattle.grs_base.specs.declared.resource.TaskId.{TaskId}
use Rattle.grs_wire.specs.History.{code_of}
use Rattle.grs_wire.specs.declared.history.HistEntry.{HistEntry}
use Rattle.grs_wire.specs.declared.history.HistEntry.TheVariants.{Enq, Deq, Release, Look, Remove}
use Rattle.grs_legal.specs.Asks.{Ask, AsksEnq, AsksDeq, AsksRelease, AsksLook, asks_of}
use Rattle.grs_legal.specs.Legal.{is_of_line, end_or, end_code, entries_of, line_entries, last_entry, lets_pass}
use Rattle.grs_legal.specs.Legal.{passed_behind}
use Rattle.grs_legal.specs.declared.meaning.Meaning.{Meaning}

-- what is kept of a task
pub record Track : Type 0 where
  -- how many entries its lines asked for
  pub asked : ℕ
  -- whether a code ended it
  pub ended : Bool
  -- the resource for which it was answered WAIT by its last entry
  pub waits : Option Res

-- of a task that has asked for nothing
abbrev pub new_track : Track
new_track = record { asked = 0; ended = false; waits = None }

-- what code keeps of a task: its track, and how far it is in its lines: past so many, with so many entries of the
-- lines behind those
pub record Kept : Type 0 where
  pub track : Track
  pub place : ℕ
  pub part : ℕ

-- of a task that has asked for nothing
abbrev pub new_kept : Kept
new_kept = record { track = new_track; place = 0; part = 0 }

-- of a task of which something may be kept
abbrev pub kept_in : Option Kept → Kept
kept_in None = new_kept
kept_in (Some k) = k

abbrev pub track_in : Option Kept → Track
track_in k = (kept_in k).track

-- the resource for which a task waits that was answered so
abbrev pub waited_for : Code → Res → Option Res
waited_for Wait r = Some r
waited_for _ r = None

-- the resource for which the task of an entry waits behind it
abbrev pub waits_behind : HistEntry → Option Res
waits_behind (Enq t r c ret code) = waited_for code r
waits_behind (Deq t r have code) = waited_for code r
waits_behind (Release t r) = None
waits_behind (Look t place filter rows) = None
waits_behind (Remove by target) = None

abbrev pub waits_behind_last : Option HistEntry → Option Res
waits_behind_last None = None
waits_behind_last (Some h) = waits_behind h

-- what a history leaves of a task
abbrev pub track_of : TaskId → List HistEntry → Track
track_of t hist = record {
  asked = length (line_entries t hist);
  ended = is_some (end_code t hist);
  waits = waits_behind_last (last_entry (entries_of t hist));
}

-- whether an entry of a line ends its task
abbrev pub ends : HistEntry → Bool
ends h = is_of_line h && is_some (end_or (code_of h) None)

-- what is kept of a task behind one more entry of its own
abbrev pub track_behind : Track → HistEntry → Track
track_behind k h = record {
  asked = cond (is_of_line h) (suc k.asked) k.asked;
  ended = k.ended || ends h;
  waits = waits_behind h;
}

-- ---- what a task asks next

-- what a task with these lines asks next: what its next asking line asks; after an end, or behind the last line, the
-- release of what it has, in the order in which that was queued
abbrev pub ask_next : State → TaskId → List Meaning → Track → Option Ask
ask_next s t ls k =
    option_or (cond k.ended None (slice_get (asks_of ls) k.asked))
    (option_map AsksRelease (slice_get (queued_by s t) 0))

-- the lines that it passes before
abbrev pub passed_next : List Meaning → Track → List Meaning
passed_next ls k = cond k.ended [] (passed_behind k.asked ls)

-- whether a task owns what it waits for, if it waits
abbrev pub is_free : State → TaskId → Option Res → Bool
is_free s t None = true
is_free s t (Some r) = owns (list_of s r) t

-- whether a task with these lines may go on: it owns what it waits for, and each WAIT line on the way lets it pass
abbrev pub may_go_on : State → TaskId → List Meaning → Track → Bool
may_go_on s t ls k = is_free s t k.waits && list_all (lets_pass s t) (passed_next ls k)

-- what a task asks as an entry, with the reply of the lists; a task may have so many elements
abbrev pub entry_for : ℕ → State → TaskId → Ask → HistEntry
entry_for limit s t (AsksEnq r c ret) = Enq t r c ret (enq_code s r t c ret (is_full limit s t))
entry_for limit s t (AsksDeq r have) = Deq t r have (deq_reply s r t have)
entry_for limit s t (AsksRelease r) = Release t r
entry_for limit s t (AsksLook place filter) = Look t place filter (look s place filter)

-- the one entry that a task with these lines may ask next, if it may ask one
abbrev pub entry_next : ℕ → State → TaskId → List Meaning → Track → Option HistEntry
entry_next limit s t ls k = cond (may_go_on s t ls k) (option_map (entry_for limit s t) (ask_next s t ls k)) None
