-- Which histories are legal.
use Rattle.std.specs.Prelude.{◌≡◌, ◌≢◌, ◌==◌, ℕ, zero, suc, Bool, true, false, not, ◌&&◌, ◌||◌, nat_lt, ◌-◌, List, []}
use Rattle.std.specs.Prelude.{◌∷◌, ◌++◌, length, filter, cond, Option, Some, None, slice_get, is_some, IfSome}
use Rattle.std.specs.Prelude.{IsSomeAnd}
use Rattle.std.specs.List.{list_all, list_any}
use Rattle.std.specs.Option.{option_or, option_map}
use Rattle.grs_base.specs.Lists.{owns, has_task}
use Rattle.grs_base.specs.State.{State, list_of, queued_by}
use Rattle.grs_base.specs.declared.resource.TaskId.{TaskId}
use Rattle.grs_base.specs.declared.decision.Code.{Code}
use Rattle.grs_base.specs.declared.decision.Code.TheVariants as codes
use Rattle.grs_base.specs.declared.resource.SysId.{SysId}
use Rattle.grs_wire.specs.declared.deck.Deck.{Deck}
use Rattle.grs_wire.specs.declared.deck.Order.{Order}
use Rattle.grs_wire.specs.declared.deck.Order.TheVariants.{Star, Vary}
use Rattle.grs_wire.specs.declared.deck.SystemDef.{SystemDef}
use Rattle.grs_wire.specs.declared.history.HistEntry.{HistEntry}
use Rattle.grs_wire.specs.declared.history.HistEntry.TheVariants.{Enq, Deq, Release, Look, Remove}
use Rattle.grs_wire.specs.History.{is_by, removes, code_of, answer_of, reply_of, replay}
use Rattle.grs_legal.specs.Asks.{Ask, AsksEnq, AsksDeq, AsksRelease, AsksLook, asks_in, asks_of, is_silent, lines_of}
use Rattle.grs_legal.specs.declared.meaning.Meaning.{Meaning}
use Rattle.grs_legal.specs.declared.meaning.Meaning.TheVariants as lines

-- what an entry asks; a removal is asked by no task
abbrev pub ask_in : HistEntry → Option Ask
ask_in (Enq t r c ret code) = Some (AsksEnq r c ret)
ask_in (Deq t r have code) = Some (AsksDeq r have)
ask_in (Release t r) = Some (AsksRelease r)
ask_in (Look t place filter rows) = Some (AsksLook place filter)
ask_in (Remove by target) = None

-- the entries of a task
abbrev pub entries_of : TaskId → List HistEntry → List HistEntry
entries_of t hist = filter (is_by t) hist

-- whether an entry was asked by a line, and not by the task's end
abbrev pub is_of_line : HistEntry → Bool
is_of_line (Enq t r c ret code) = true
is_of_line (Deq t r have code) = true
is_of_line (Release t r) = false
is_of_line (Look t place filter rows) = true
is_of_line (Remove by target) = false

-- the entries that a task's lines asked for, in the order of these lines
abbrev pub line_entries : TaskId → List HistEntry → List HistEntry
line_entries t hist = filter (λ h. is_by t h && is_of_line h) hist

-- the end that this code is, or else the one behind it
abbrev pub end_or : Code → Option ℕ → Option ℕ
end_or (codes.End n) other = Some n
end_or _ other = other

-- the code with which a task was ended, if one of these replies is an end
abbrev pub end_among : List HistEntry → Option ℕ
end_among [] = None
end_among (h ∷ hs) = end_or (code_of h) (end_among hs)

abbrev pub end_code : TaskId → List HistEntry → Option ℕ
end_code t hist = end_among (line_entries t hist)

-- what a task with these lines asks after a history: what its next asking line asks; after an end, or
-- behind the last line, the release of what it has, in the order in which that was queued
abbrev pub next_ask : ℕ → TaskId → List Meaning → List HistEntry → Option Ask
next_ask limit t ls hist =
    option_or
    (cond (is_some (end_code t hist)) None (slice_get (asks_of ls) (length (line_entries t hist))))
    (option_map AsksRelease (slice_get (queued_by (replay limit hist) t) 0))

-- the lines that ask nothing behind the lines that asked this much, up to the next line that asks
abbrev pub passed_behind : ℕ → List Meaning → List Meaning
passed_behind n [] = []
passed_behind zero (l ∷ ls) = cond (is_silent l) (l ∷ passed_behind zero ls) []
passed_behind (suc n) (l ∷ ls) =
    cond (nat_lt (suc n) (length (asks_in l))) [] (passed_behind (suc n - length (asks_in l)) ls)

-- the lines that ask nothing which a task passes before its next entry: none after an end
abbrev pub passed_lines : TaskId → List Meaning → List HistEntry → List Meaning
passed_lines t ls hist = cond (is_some (end_code t hist)) [] (passed_behind (length (line_entries t hist)) ls)

-- whether a WAIT line lets its task pass: the task owns the resource, or has no element there
abbrev pub lets_pass : State → TaskId → Meaning → Bool
lets_pass s t (lines.Wait r) = owns (list_of s r) t || not (has_task (list_of s r) t)
lets_pass s t _ = true

-- the last of these entries
abbrev pub last_entry : List HistEntry → Option HistEntry
last_entry [] = None
last_entry (h ∷ []) = Some h
last_entry (h ∷ g ∷ gs) = last_entry (g ∷ gs)

-- whether a task owns the resource that an entry asked for
abbrev pub owns_asked : State → TaskId → HistEntry → Bool
owns_asked s t (Enq u r c ret code) = owns (list_of s r) t
owns_asked s t (Deq u r have code) = owns (list_of s r) t
owns_asked s t (Release u r) = owns (list_of s r) t
owns_asked s t (Look u place filter rows) = false
owns_asked s t (Remove by target) = false

-- whether a task whose entry this is may go on: one that waited must own by now
abbrev pub HasControl : State → TaskId → HistEntry → Type 0
HasControl s t h = code_of h ≡ codes.Wait → owns_asked s t h ≡ true

-- An entry of task t, whose lines mean this, may stand behind a history.
pub record IsLegal (limit : ℕ) (t : TaskId) (ls : List Meaning) (hist : List HistEntry) (h : HistEntry) : Type 0 where
  -- its reply is the one that the lists give
  pub reply : answer_of h ≡ reply_of limit (replay limit hist) h
  -- the task's system wasn't removed
  pub live : list_any (removes t.system) hist ≡ false
  -- it is what its task asks next
  pub next : next_ask limit t ls hist ≡ ask_in h
  -- where its task's last entry was answered WAIT, the task owns that resource by now
  pub waited : IfSome (last_entry (entries_of t hist)) (HasControl (replay limit hist) t)
  -- each WAIT line that its task passed on the way let it pass
  pub passed : list_all (lets_pass (replay limit hist) t) (passed_lines t ls hist) ≡ true

-- The same by the deck: the task is one of the deck, with its lines there.
abbrev pub MayAsk : Deck → TaskId → List HistEntry → HistEntry → Type 0
MayAsk deck t hist h = IsSomeAnd (lines_of deck t) (λ ls. IsLegal deck.limit t ls hist h)

-- whether a command is to remove this system
abbrev pub is_removal_of : SysId → Order → Bool
is_removal_of target Star = false
is_removal_of target (Vary named) = target.0 == named.0

-- whether the desk of a system, if it is there, commands the removal of another
abbrev pub commands_removal : SysId → Option SystemDef → Bool
commands_removal target None = false
commands_removal target (Some s) = list_any (λ c. is_removal_of target c.order) s.desk

-- A removal may stand behind a history.
pub record MayRemove (deck : Deck) (hist : List HistEntry) (by target : SysId) : Type 0 where
  -- the system that makes it wasn't removed,
  pub live : list_any (removes by) hist ≡ false
  -- nor was its target, which is another system,
  pub first : list_any (removes target) hist ≡ false
  pub other : target.0 ≢ by.0
  -- and the desk of the system commands it
  pub commanded : commands_removal target (slice_get deck.systems by.0) ≡ true

-- an entry may stand behind a history, by the task that asked it, or the desk that commanded it
abbrev pub MayStand : Deck → List HistEntry → HistEntry → Type 0
MayStand deck hist (Enq t r c ret code) = MayAsk deck t hist (Enq t r c ret code)
MayStand deck hist (Deq t r have code) = MayAsk deck t hist (Deq t r have code)
MayStand deck hist (Release t r) = MayAsk deck t hist (Release t r)
MayStand deck hist (Look t place filter rows) = MayAsk deck t hist (Look t place filter rows)
MayStand deck hist (Remove by target) = MayRemove deck hist by target

-- each entry may stand behind those before it, the first behind this history
abbrev pub LegalFrom : Deck → List HistEntry → List HistEntry → Type 0
LegalFrom deck hist [] = Unit {0}
LegalFrom deck hist (h ∷ hs) = MayStand deck hist h × LegalFrom deck (hist ++ h ∷ []) hs

-- Each entry is of a task of the deck, or removes a system, and may stand where it stands.
abbrev pub Legal : Deck → List HistEntry → Type 0
Legal deck hist = LegalFrom deck [] hist
