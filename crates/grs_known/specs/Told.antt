-- When a line that is told to a task agrees with a history, behind the lines that were told before.
use Rattle.std.specs.Prelude.{◌≡◌, ◌<◌, ℕ, Bool, true, false, not, ◌&&◌, ◌||◌, ◌==◌, nat_lt, ◌-◌, List, [], length}
use Rattle.std.specs.Prelude.{take, drop, cond, Option, Some, None, slice_get, unwrap_or}
use Rattle.std.specs.List.{list_all, list_any}
use Rattle.grs_base.specs.Same.{same_res, same_task}
use Rattle.grs_base.specs.Lists.{owns, has_task}
use Rattle.grs_base.specs.State.{State, list_of, queued_by}
use Rattle.grs_base.specs.declared.resource.Res.{Res}
use Rattle.grs_base.specs.declared.resource.Ret.{Ret}
use Rattle.grs_base.specs.declared.resource.Ret.TheVariants.{RetEcb}
use Rattle.grs_base.specs.declared.resource.Row.{Row}
use Rattle.grs_base.specs.declared.resource.TaskId.{TaskId}
use Rattle.grs_base.specs.declared.decision.Code.{Code}
use Rattle.grs_base.specs.declared.decision.Code.TheVariants.{C00, C04, C08, Wait}
use Rattle.grs_legal.specs.declared.meaning.Meaning.{Meaning}
use Rattle.grs_legal.specs.declared.meaning.Meaning.TheVariants as lines
use Rattle.grs_wire.specs.declared.history.HistEntry.{HistEntry}
use Rattle.grs_wire.specs.declared.history.HistEntry.TheVariants.{Enq, Deq, Release, Look, Remove}
use Rattle.grs_wire.specs.declared.told.Verb.{Verb}
use Rattle.grs_wire.specs.declared.told.Verb.TheVariants as verbs
use Rattle.grs_wire.specs.declared.told.ToldLine.{ToldLine}
use Rattle.grs_wire.specs.declared.told.ToldLine.TheVariants.{Coded, Shown, Post, Ended, Desk}
use Rattle.grs_wire.specs.History.{replay}
use Rattle.grs_legal.specs.Asks.{Ask, asks_in, asks_of, is_silent}
use Rattle.grs_legal.specs.Legal.{line_entries, end_code, next_ask}
use Rattle.task_state.specs.Replies.{is_granted, is_queued}
use Rattle.grs_known.specs.Items.{has_control, rows_in}
use Rattle.gqscan.specs.Shown.{code_for}

-- the entry at a place among these, where the line is there and asks something
abbrev pub asked_at : Option Meaning → Option HistEntry → Option HistEntry
asked_at None entry = None
asked_at (Some l) entry = cond (is_silent l) None entry

-- the entry of a task's line, lines numbered from 1, among the entries that the task's lines asked for: the
-- one at the place that the line has among the asking lines
abbrev pub entry_of_line : List Meaning → List HistEntry → ℕ → Option HistEntry
entry_of_line ls entries k =
    asked_at (slice_get ls (k - 1)) (slice_get entries (length (asks_of (take (k - 1) ls))))

-- what a line asks, which may not be there
abbrev pub asks_at : Option Meaning → List Ask
asks_at None = []
asks_at (Some l) = asks_in l

-- the entries of a task's line that stand, lines numbered from 1: as many as the line asks for, behind those that the
-- lines before it asked for
abbrev pub entries_of_line : List Meaning → List HistEntry → ℕ → List HistEntry
entries_of_line ls entries k =
    take (length (asks_at (slice_get ls (k - 1)))) (drop (length (asks_of (take (k - 1) ls))) entries)

-- whether a line shows lists, and is of this kind
abbrev pub is_same_verb : Verb → Verb → Bool
is_same_verb verbs.Gqscan verbs.Gqscan = true
is_same_verb verbs.Display verbs.Display = true
is_same_verb _ _ = false

abbrev pub is_display_by : Verb → Option Meaning → Bool
is_display_by verb (Some (lines.Shows d)) = is_same_verb verb d.verb
is_display_by verb _ = false

-- a reply as it is told: one that waited is told 00, when control is told
abbrev pub told_as : Code → Code
told_as Wait = C00
told_as code = code

-- whether an ENQ gets control when it is told this code: TEST gets none
abbrev pub gets_control : Ret → Code → Bool
gets_control ret code = is_granted code && has_control ret

-- a line tells a task the code of an ENQ or RESERVE: the reply of its entry; and control only to an owner
abbrev pub TellsEnq : State → TaskId → Code → Option HistEntry → Type 0
TellsEnq s t code (Some (Enq u r c ret reply)) =
    (told_as reply ≡ code) × (gets_control ret code ≡ true → owns (list_of s r) t ≡ true)
TellsEnq s t code _ = ⊥

-- a line tells a task the code of a DEQ
abbrev pub TellsDeq : Code → Option HistEntry → Type 0
TellsDeq code (Some (Deq u r have reply)) = reply ≡ code
TellsDeq code _ = ⊥

-- whether an entry queued an element of its task on a resource
abbrev pub queues : Res → HistEntry → Bool
queues r (Enq u q c ret reply) = same_res r q && is_queued ret reply
queues r (Deq u q have reply) = false
queues r (Release u q) = false
queues r (Look u place filter rows) = false
queues r (Remove by target) = false

-- the same of an entry that may not be there
abbrev pub queues_at : Res → Option HistEntry → Bool
queues_at r None = false
queues_at r (Some h) = queues r h

-- the entries that the lines behind a task's line asked for
abbrev pub entries_behind : List Meaning → List HistEntry → ℕ → List HistEntry
entries_behind ls entries k = drop (length (asks_of (take k ls))) entries

-- whether a task's line is the last one whose entry queued an element on a resource: so that element, and no
-- earlier one, is what the task has there now
abbrev pub queued_last : List Meaning → List HistEntry → Res → ℕ → Bool
queued_last ls entries r k =
    queues_at r (entry_of_line ls entries k) && not (list_any (queues r) (entries_behind ls entries k))

-- whether this code of a line of this kind tells control
abbrev pub is_control : Verb → Code → Bool
is_control verbs.Enq C00 = true
is_control _ _ = false

-- whether a line tells a task control of the element that it has on a resource: it is the code or the post of
-- the line that queued this element
abbrev pub tells_control : TaskId → List Meaning → List HistEntry → Res → ToldLine → Bool
tells_control t ls entries r (Coded u k part verb code) =
    same_task t u && (is_control verb code && queued_last ls entries r k)
tells_control t ls entries r (Shown u k verb code rows) = false
tells_control t ls entries r (Post u k) = same_task t u && queued_last ls entries r k
tells_control t ls entries r (Ended u code) = false
tells_control t ls entries r (Desk k said) = false

-- a WAIT is told 00 to an owner that was told control of its element before, and 08 to a task without an element
abbrev pub TellsWaitOf : TaskId → List Meaning → List HistEntry → List ToldLine → State → Res → Code → Type 0
TellsWaitOf t ls entries before s r C00 =
    (owns (list_of s r) t ≡ true) × (list_any (tells_control t ls entries r) before ≡ true)
TellsWaitOf t ls entries before s r C08 = has_task (list_of s r) t ≡ false
TellsWaitOf t ls entries before s r _ = ⊥

abbrev pub TellsWait : TaskId → List Meaning → List HistEntry → List ToldLine → State → Code → Option Meaning → Type 0
TellsWait t ls entries before s code (Some (lines.Wait r)) = TellsWaitOf t ls entries before s r code
TellsWait t ls entries before s code _ = ⊥

-- an ECB is posted to an owner whose ENQ had one and was answered 04
abbrev pub Posts : State → TaskId → Option HistEntry → Type 0
Posts s t (Some (Enq u r c ret reply)) = (ret ≡ RetEcb) × (reply ≡ C04) × (owns (list_of s r) t ≡ true)
Posts s t _ = ⊥

-- Rows are told to a task whose line of this kind shows lists, once each of its looks stands: the rows of all of these,
-- one look behind the other, and the code 00 where there is a row, else 04.
pub record TellsRows (verb : Verb) (code : Code) (rows : List Row) (line : Option Meaning) (looks : List HistEntry) :
    Type 0 where
  pub kind : is_display_by verb line ≡ true
  pub all : length looks ≡ length (asks_at line)
  pub shown : rows ≡ rows_in looks
  pub told : code ≡ code_for (length rows)

-- whether a line is no code of the task, or one of an earlier line
abbrev pub is_code_before : TaskId → ℕ → ToldLine → Bool
is_code_before t k (Coded u j part verb code) = not (same_task t u) || nat_lt j k
is_code_before t k (Shown u j verb code rows) = not (same_task t u) || nat_lt j k
is_code_before t k _ = true

-- whether a line tells the code of a task's line
abbrev pub is_code_of : TaskId → ℕ → ToldLine → Bool
is_code_of t k (Coded u j part verb code) = same_task t u && (j == k)
is_code_of t k (Shown u j verb code rows) = same_task t u && (j == k)
is_code_of t k _ = false

-- whether a line posts the ECB of a task's line
abbrev pub is_post_of : TaskId → ℕ → ToldLine → Bool
is_post_of t k (Post u j) = same_task t u && (j == k)
is_post_of t k _ = false

-- whether a line tells that a task has ended
abbrev pub is_end_of : TaskId → ToldLine → Bool
is_end_of t (Ended u code) = same_task t u
is_end_of t _ = false

-- a code line agrees by its verb
abbrev pub CodeAgrees : ℕ → TaskId → List Meaning → List HistEntry → List ToldLine → ℕ → Code → Verb → Type 0
CodeAgrees limit t ls history before k code verbs.Enq =
    TellsEnq (replay limit history) t code (entry_of_line ls (line_entries t history) k)
CodeAgrees limit t ls history before k code verbs.Deq = TellsDeq code (entry_of_line ls (line_entries t history) k)
CodeAgrees limit t ls history before k code verbs.Gqscan = ⊥
CodeAgrees limit t ls history before k code verbs.Display = ⊥
CodeAgrees limit t ls history before k code verbs.Wait =
    TellsWait t ls (line_entries t history) before (replay limit history) code (slice_get ls (k - 1))

-- A line that tells a task of these lines something agrees with the history up to its event, behind the
-- lines told before. Code lines and rows come in the order of their lines, an ECB is posted once, behind its code,
-- and the end comes last, where nothing is left and nothing more is asked.
abbrev pub LineAgrees : ℕ → List Meaning → List HistEntry → List ToldLine → ToldLine → Type 0
LineAgrees limit ls history before (Coded t k part verb code) =
    (0 < k) × CodeAgrees limit t ls history before k code verb
    × (list_all (is_code_before t k) before ≡ true) × (list_any (is_end_of t) before ≡ false)
LineAgrees limit ls history before (Post t k) =
    (0 < k) × Posts (replay limit history) t (entry_of_line ls (line_entries t history) k)
    × (list_any (is_code_of t k) before ≡ true) × (list_any (is_post_of t k) before ≡ false)
    × (list_any (is_end_of t) before ≡ false)
LineAgrees limit ls history before (Shown t k verb code rows) =
    (0 < k) × TellsRows verb code rows (slice_get ls (k - 1)) (entries_of_line ls (line_entries t history) k)
    × (list_all (is_code_before t k) before ≡ true) × (list_any (is_end_of t) before ≡ false)
LineAgrees limit ls history before (Desk k said) = ⊥
LineAgrees limit ls history before (Ended t code) =
    (queued_by (replay limit history) t ≡ []) × (next_ask limit t ls history ≡ None)
    × (code ≡ unwrap_or (end_code t history) 0) × (list_any (is_end_of t) before ≡ false)

-- a line told to a task of the deck agrees; a task that the deck lacks is told nothing
abbrev pub AgreesOf : ℕ → Option (List Meaning) → List HistEntry → List ToldLine → ToldLine → Type 0
AgreesOf limit None history before line = ⊥
AgreesOf limit (Some ls) history before line = LineAgrees limit ls history before line
