-- Event lines.
use Rattle.std.specs.Prelude.{◌≡◌, ℕ, nat_lt, List, codes, Option, Some, None, Result, Ok, Err, if◌then◌else◌}
use Rattle.std.specs.Borrow.{Bor}
use Rattle.std.specs.Str.{bytes_eq}
use Rattle.deck_scan.specs.declared.token.Token.{Token}
use Rattle.deck_form.specs.declared.event.EventAct.{EventAct}
use Rattle.deck_form.specs.declared.event.EventAct.TheVariants as acts
use Rattle.deck_form.specs.declared.event.EventWord.{EventWord}
use Rattle.deck_form.specs.declared.event.EventWord.TheVariants as words
use Rattle.deck_scan.specs.declared.miss.Miss.{Miss}
use Rattle.deck_scan.specs.Plain.{third_token}
use Rattle.deck_scan.specs.Next.{◌>>=◌, end_at, any_word_at}
use Rattle.deck_form.specs.Words.{short_at, named_at, dotted_at, written_number}

unfoldable pub event_word : List ℕ → EventWord
event_word w =
    if bytes_eq w (codes "TASK") then words.Task
    else if bytes_eq w (codes "TURN") then words.Turn
    else if bytes_eq w (codes "SEND") then words.Send
    else if bytes_eq w (codes "TAKE") then words.Take
    else if bytes_eq w (codes "SETTLE") then words.Settle
    else if bytes_eq w (codes "TELL") then words.Tell
    else if bytes_eq w (codes "PART") then words.Part
    else if bytes_eq w (codes "LEAVE") then words.Leave
    else if bytes_eq w (codes "SWITCH") then words.Switch
    else if bytes_eq w (codes "PURGE") then words.Purge
    else if bytes_eq w (codes "REST") then words.Rest
    else words.Unknown

-- The names of a job and a task, and nothing after them.
unfoldable pub pair_at : List Token → Option (List ℕ × List ℕ)
pair_at ts = do
  p ← dotted_at ts
  end ← end_at p.2
  Some (p.0, p.1)

-- An entry below the number of entries, and nothing after it.
unfoldable pub entry_at : ℕ → List Token → Option ℕ
entry_at entries ts = do
  w ← any_word_at ts
  n ← written_number w.0
  end ← end_at w.1
  if nat_lt n entries then Some n else None

-- Nothing more.
abbrev pub alone_at : EventAct → List Token → Option EventAct
alone_at act ts = do
  end ← end_at ts
  Some act

-- What stands behind the word of an event.
unfoldable pub act_at : ℕ → EventWord → List Token → Option EventAct
act_at entries words.Task ts = pair_at ts >>= λ p. Some (acts.Task p.0 p.1)
act_at entries words.Turn ts = alone_at acts.Turn ts
act_at entries words.Send ts = pair_at ts >>= λ p. Some (acts.Send p.0 p.1)
act_at entries words.Take ts = alone_at acts.Take ts
act_at entries words.Settle ts = alone_at acts.Settle ts
act_at entries words.Tell ts = entry_at entries ts >>= λ e. Some (acts.Tell e)
act_at entries words.Part ts = entry_at entries ts >>= λ e. Some (acts.Part e)
act_at entries words.Leave ts = entry_at entries ts >>= λ e. Some (acts.Leave e)
act_at entries words.Switch ts = alone_at acts.Switch ts
act_at entries words.Purge ts = named_at ts >>= λ n. Some (acts.Purge n)
act_at entries words.Rest ts = alone_at acts.Rest ts
act_at entries words.Unknown ts = None

-- A system and what it does.
unfoldable pub event_at : ℕ → List Token → Option (List ℕ × EventAct)
event_at entries ts = do
  s ← short_at ts
  w ← any_word_at s.1
  a ← act_at entries (event_word w.0) w.1
  Some (s.0, a)

-- ---- as it is read

-- A word was read, or that nothing stands there; or what stands there is nothing that a system does.
abbrev pub ReadsOperand : Result (Option (Bor (List ℕ))) Miss → List Token → Type 0
ReadsOperand (Ok operand) ts = ts ≡ third_token operand
ReadsOperand (Err e) ts = (entries : ℕ) (v : EventWord) → act_at entries v ts ≡ None
