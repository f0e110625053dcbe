-- What holds of each task after each event: the invariant of a run.
use Rattle.std.proofs.Common.{◌≡◌, ◌<◌, ◌≤◌, ◌-◌, ℕ, suc, Bool, true, false, cond, not, ◌&&◌, ◌||◌, List, [], ◌∷◌, map}
use Rattle.std.proofs.Common.{length, take, drop, Option, Some, None}
use Rattle.std.specs.Prelude.{slice_get, ◌⊎◌, IfSome, is_some, unwrap_or, nat_lt}
use Rattle.std.specs.List.{list_any, list_all}
use Rattle.std.specs.Option.{option_or, option_map}
use Rattle.grs_base.specs.Same.{same_res, same_task}
use Rattle.grs_base.specs.declared.resource.Res.{Res}
use Rattle.grs_base.specs.declared.resource.Ctl.{Ctl}
use Rattle.grs_base.specs.declared.resource.Ret.TheVariants.{RetEcb}
use Rattle.grs_base.specs.declared.resource.Row.{Row}
use Rattle.grs_base.specs.declared.resource.TaskId.{TaskId}
use Rattle.grs_base.specs.declared.decision.Code.TheVariants.{C04, Wait}
use Rattle.grs_legal.specs.declared.meaning.Display.{Display}
use Rattle.grs_legal.specs.declared.meaning.Meaning.{Meaning}
use Rattle.grs_legal.specs.declared.meaning.Meaning.TheVariants as lines
use Rattle.grs_wire.specs.declared.history.HistEntry.{HistEntry}
use Rattle.grs_wire.specs.declared.history.HistEntry.TheVariants.{Enq, Deq, Release, Look, Remove}
use Rattle.grs_wire.specs.declared.told.ToldLine.{ToldLine}
use Rattle.grs_wire.specs.declared.told.ToldLine.TheVariants.{Coded, Shown, Post, Ended, Desk}
use Rattle.grs_wire.specs.History.{code_of}
use Rattle.grs_legal.specs.Asks.{Ask, AsksRelease, asks_of}
use Rattle.grs_legal.specs.Legal.{end_among, passed_behind}
use Rattle.grs_known.specs.Passed.{has_ended}
use Rattle.grs_known.specs.Items.{rows_in}
use Rattle.grs_known.specs.Past.{has_own, Past}
use Rattle.task_state.specs.declared.state.Rec.{Rec}
use Rattle.task_state.specs.declared.state.Phase.{Phase}
use Rattle.task_state.specs.declared.state.Phase.TheVariants as phases
use Rattle.task_state.specs.declared.state.TaskState.{TaskState}
use Rattle.task_state.specs.Replies.{is_queued, is_held}
use Rattle.grs_known.specs.Told.{entry_of_line, queued_last, tells_control, is_code_before, is_code_of, is_post_of}
use Rattle.grs_known.specs.Told.{is_end_of}

-- each of these records is so
abbrev pub Each : (Rec → Type 0) → List Rec → Type 0
Each P [] = Unit {0}
Each P (x ∷ xs) = P x × Each P xs

-- a record as a task's own element
abbrev pub key : Rec → Res × Ctl
key x = (x.res, x.ctl)

-- whether no resource stands twice
abbrev pub has_res : Res → List Rec → Bool
has_res r [] = false
has_res r (x ∷ xs) = same_res r x.res || has_res r xs

abbrev pub is_distinct : List Rec → Bool
is_distinct [] = true
is_distinct (x ∷ xs) = not (has_res x.res xs) && is_distinct xs

-- the entry of a record's line asked for this resource, and its element stands in a list
abbrev pub IsEntryOn : Res → Option HistEntry → Type 0
IsEntryOn r None = ⊥
IsEntryOn r (Some (Enq u q c ret code)) = (q ≡ r) × (is_queued ret code ≡ true)
IsEntryOn r (Some (Deq u q have code)) = ⊥
IsEntryOn r (Some (Release u q)) = ⊥
IsEntryOn r (Some (Look u place filter rows)) = ⊥
IsEntryOn r (Some (Remove by target)) = ⊥

-- the entry of a record's line asked by ECB and was answered 04
abbrev pub IsEcb : Option HistEntry → Type 0
IsEcb None = ⊥
IsEcb (Some (Enq u q c ret code)) = (ret ≡ RetEcb) × (code ≡ C04)
IsEcb (Some (Deq u q have code)) = ⊥
IsEcb (Some (Release u q)) = ⊥
IsEcb (Some (Look u place filter rows)) = ⊥
IsEcb (Some (Remove by target)) = ⊥

-- whether a line is no post of the task, or one of an earlier line
abbrev pub is_post_before : TaskId → ℕ → ToldLine → Bool
is_post_before t k (Coded u j part verb code) = true
is_post_before t k (Post u j) = not (same_task t u) || nat_lt j k
is_post_before t k (Ended u code) = true
is_post_before t k (Shown u j verb code rows) = true
is_post_before t k (Desk j said) = true

-- whether the code of a task's last line is still to come
abbrev pub is_waiting : Phase → Bool
is_waiting phases.HeldAnswer = true
is_waiting (phases.HeldLine r) = true
is_waiting phases.ToSend = true
is_waiting phases.Sent = true
is_waiting phases.Ready = false
is_waiting (phases.Ending c) = false
is_waiting phases.Ended = false

-- whether a task's last line asked for something that has no entry yet
abbrev pub is_unsent : Phase → Bool
is_unsent phases.ToSend = true
is_unsent phases.Sent = true
is_unsent phases.HeldAnswer = false
is_unsent (phases.HeldLine r) = false
is_unsent phases.Ready = false
is_unsent (phases.Ending c) = false
is_unsent phases.Ended = false

-- codes told are of lines before this one
abbrev pub code_bound : Phase → ℕ → ℕ
code_bound p line = cond (is_waiting p) line (suc line)

-- a posted ECB is still to come
pub record IsDue (ls : List Meaning) (E : List HistEntry) (T : List ToldLine) (t : TaskId) (line : ℕ) : Type 0 where
  pub ecb : IsEcb (entry_of_line ls E line)
  pub coded : list_any (is_code_of t line) T ≡ true
  pub unposted : list_any (is_post_of t line) T ≡ false

-- what an untold record waits for: the code of its task's last line, or that its ECB is posted
abbrev pub WaitsFor : List Meaning → List HistEntry → List ToldLine → TaskId → ℕ → Phase → Rec → Type 0
WaitsFor ls E T t line p x = ((is_held p ≡ true) × (x.line ≡ line)) ⊎ IsDue ls E T t x.line

-- A record of task t, which owns this by its past; `leaving` is what its outstanding request gives up.
pub record IsRec (ls : List Meaning) (E : List HistEntry) (T : List ToldLine) (owns leaving : Res → Bool) (t : TaskId)
    (line : ℕ) (p : Phase) (x : Rec) :
    Type 0 where
  pub entry : IsEntryOn x.res (entry_of_line ls E x.line)
  -- and no later line queued another element there
  pub latest : queued_last ls E x.res x.line ≡ true
  pub low : 0 < x.line
  pub high : x.line ≤ line
  -- it is marked exactly where the task owns; and of control that the task doesn't give up a line told
  pub known : x.told ≡ owns x.res
  pub control : owns x.res ≡ true → leaving x.res ≡ false → list_any (tells_control t ls E x.res) T ≡ true
  pub due : x.told ≡ false → WaitsFor ls E T t line p x

-- A task that hasn't begun to end.
pub record IsGoing (E : List HistEntry) (T : List ToldLine) (t : TaskId) : Type 0 where
  pub no_code : end_among E ≡ None
  pub no_end : list_any (is_end_of t) T ≡ false

-- ---- by the past of a task

-- whether a line lets the task pass: at a WAIT line it owns the resource, or has no element there
abbrev pub may_pass : Past → Meaning → Bool
may_pass p (lines.Enq r ctl ret unit) = true
may_pass p (lines.Deq r have) = true
may_pass p (lines.Wait r) = p.owns r || not (has_own r p.own)
may_pass p (lines.Shows d) = true
may_pass p lines.Nothing = true

-- whether a task that owns this owns what an entry asked for
abbrev pub owns_entry : (Res → Bool) → HistEntry → Bool
owns_entry owns (Enq u r c ret code) = owns r
owns_entry owns (Deq u r have code) = owns r
owns_entry owns (Release u r) = owns r
owns_entry owns (Look u place filter rows) = false
owns_entry owns (Remove by target) = false

-- control of one resource more, and the past of a task that was told it
abbrev pub also : Res → (Res → Bool) → Res → Bool
also r owns = λ q. owns q || same_res q r

abbrev pub with_control : Res → Past → Past
with_control r p = record p { owns = also r p.owns }

-- lines up to a place that ask nothing let the task pass
abbrev pub Passed : List Meaning → Past → ℕ → Type 0
Passed ls p n = list_all (may_pass p) (passed_behind (length p.asked) (take n ls)) ≡ true

-- a task whose last entry doesn't wait any more
abbrev pub IsFree : Past → Type 0
IsFree p = IfSome p.last (λ h. code_of h ≡ Wait → owns_entry p.owns h ≡ true)

-- what a task with this past asks next: what its next asking line asks, or the release of its first element; and which
-- lines that ask nothing it passes before
abbrev pub asks_next : List Meaning → Past → Option Ask
asks_next ls p =
    option_or (cond (is_some (end_among p.asked)) None (slice_get (asks_of ls) (length p.asked)))
    (option_map AsksRelease (slice_get (map (λ k. k.0) p.own) 0))

abbrev pub passes_next : List Meaning → Past → List Meaning
passes_next ls p = cond (is_some (end_among p.asked)) [] (passed_behind (length p.asked) ls)

-- A task asks this next, and may.
pub record IsNext (ls : List Meaning) (p : Past) (a : Ask) : Type 0 where
  pub next : asks_next ls p ≡ Some a
  pub free : IsFree p
  pub passed : list_all (may_pass p) (passes_next ls p) ≡ true

-- A task that may take its next line.
pub record IsReady (ls : List Meaning) (p : Past) (T : List ToldLine) (t : TaskId) (line : ℕ) : Type 0 where
  pub going : IsGoing p.asked T t
  pub free : IsFree p
  pub passed : Passed ls p line

-- A task held by its last answer: its last entry is that of its last line, and waits.
pub record IsHeld (ls : List Meaning) (p : Past) (T : List ToldLine) (t : TaskId) (line : ℕ) : Type 0 where
  pub going : IsGoing p.asked T t
  pub passed : Passed ls p line
  pub last : HistEntry
  pub is_last : p.last ≡ Some last
  pub of_line : entry_of_line ls p.asked line ≡ Some last
  pub waits : code_of last ≡ Wait
  pub unposted : list_any (is_post_of t line) T ≡ false

-- a WAIT line for this resource
abbrev pub IsWaitFor : Res → Option Meaning → Type 0
IsWaitFor r None = ⊥
IsWaitFor r (Some (lines.Enq q ctl ret unit)) = ⊥
IsWaitFor r (Some (lines.Deq q have)) = ⊥
IsWaitFor r (Some (lines.Wait q)) = q ≡ r
IsWaitFor r (Some (lines.Shows d)) = ⊥
IsWaitFor r (Some lines.Nothing) = ⊥

-- A task held at a WAIT line.
pub record IsHeldLine (ls : List Meaning) (p : Past) (T : List ToldLine) (t : TaskId) (line : ℕ) (r : Res) :
    Type 0 where
  pub going : IsGoing p.asked T t
  pub free : IsFree p
  pub begun : 0 < line
  pub at : IsWaitFor r (slice_get ls (line - 1))
  pub passed : Passed ls p (line - 1)

-- A task that is ending.
pub record IsEnding (ls : List Meaning) (p : Past) (T : List ToldLine) (t : TaskId) (line : ℕ) (c : ℕ) : Type 0 where
  pub no_end : list_any (is_end_of t) T ≡ false
  pub code : c ≡ unwrap_or (end_among p.asked) 0
  pub free : IsFree p
  pub all_lines : end_among p.asked ≡ None → (line ≡ length ls) × Passed ls p line

-- A task in the middle of a line that shows lists: its past has some of the line's looks, none or all.
pub record IsLooking (ls : List Meaning) (p : Past) (T : List ToldLine) (t : TaskId) (line : ℕ) : Type 0 where
  pub going : IsGoing p.asked T t
  pub free : IsFree p
  pub begun : 0 < line
  pub display : Display
  pub at : slice_get ls (line - 1) ≡ Some (lines.Shows display)
  pub passed : Passed ls p (line - 1)
  pub from : length (asks_of (take (line - 1) ls)) ≤ length p.asked
  pub to : length p.asked ≤ length (asks_of (take line ls))

-- the rows that a line's looks show, as far as these entries have them
abbrev pub rows_shown : List Meaning → List HistEntry → ℕ → List Row
rows_shown ls E line = rows_in (drop (length (asks_of (take (line - 1) ls))) E)

-- what rows a task has: those of its line's looks so far, and none where it isn't looking
abbrev pub IsShown : List Meaning → List HistEntry → ℕ → List Row → Phase → Type 0
IsShown ls E line ws phases.Ready = ws ≡ []
IsShown ls E line ws phases.ToSend = ws ≡ rows_shown ls E line
IsShown ls E line ws phases.Sent = ws ≡ rows_shown ls E line
IsShown ls E line ws phases.HeldAnswer = ws ≡ []
IsShown ls E line ws (phases.HeldLine r) = ws ≡ []
IsShown ls E line ws (phases.Ending c) = ws ≡ []
IsShown ls E line ws phases.Ended = ws ≡ []

-- what holds of a task by its phase
abbrev pub IsInPhase : List Meaning → Past → List ToldLine → TaskId → ℕ → Phase → Type 0
IsInPhase ls p T t line phases.Ready = IsReady ls p T t line
IsInPhase ls p T t line phases.ToSend = IsLooking ls p T t line
IsInPhase ls p T t line phases.Sent = IsLooking ls p T t line
IsInPhase ls p T t line phases.HeldAnswer = IsHeld ls p T t line
IsInPhase ls p T t line (phases.HeldLine r) = IsHeldLine ls p T t line r
IsInPhase ls p T t line (phases.Ending c) = IsEnding ls p T t line c
IsInPhase ls p T t line phases.Ended = Unit {0}

-- A task of these lines with this past, when T was told. Of what its outstanding request gives up no line tells.
pub record IsTask (ls : List Meaning) (p : Past) (T : List ToldLine) (leaving : Res → Bool) (t : TaskId)
    (x : TaskState) :
    Type 0 where
  -- its records are its elements, in the order in which these were queued
  pub keys : map key x.records ≡ p.own
  -- and it owns only where it has one
  pub owned : (r : Res) → p.owns r ≡ true → has_own r p.own ≡ true
  pub distinct : is_distinct x.records ≡ true
  -- its entries are those of the asking lines among the lines that it has taken
  pub within : x.line ≤ length ls
  pub count : is_unsent x.phase ≡ false → length p.asked ≡ length (asks_of (take x.line ls))
  pub records : Each (IsRec ls p.asked T p.owns leaving t x.line x.phase) x.records
  pub codes : list_all (is_code_before t (code_bound x.phase x.line)) T ≡ true
  pub posts : list_all (is_post_before t (suc x.line)) T ≡ true
  pub phase : IsInPhase ls p T t x.line x.phase
  pub shown : IsShown ls p.asked x.line x.rows x.phase
  pub emptied : has_ended x.phase ≡ true → x.records ≡ []
