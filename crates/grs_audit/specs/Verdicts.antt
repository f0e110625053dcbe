-- The verdict on a text: whether it has the history of a deck.
use Rattle.std.specs.Prelude.{◌≡◌, ℕ, suc, ◌+◌, ◌==◌, List, [], ◌∷◌, length, take, drop, codes}
use Rattle.std.specs.Prelude.{Option, Some, None, cond}
use Rattle.std.specs.Option.{option_map}
use Rattle.std.specs.Str.{bytes_eq}
use Rattle.deck_form.specs.Words.{digits}
use Rattle.grs_wire.specs.declared.deck.Deck.{Deck}
use Rattle.grs_audit.specs.Lines.{lines_in}
use Rattle.grs_audit.specs.Way.{IsWhole, IsOff}
use Rattle.grs_audit.specs.declared.verdict.Verdict.{Verdict}
use Rattle.grs_audit.specs.declared.verdict.Verdict.TheVariants.{Yes, No}

-- the number that decimal digits write, the first of which is 0 only where it stands alone
abbrev pub plain_number : List ℕ → Option ℕ
plain_number [] = None
plain_number (d ∷ []) = digits 0 (d ∷ [])
plain_number (d ∷ e ∷ ds) = cond (d == 48) None (digits 0 (d ∷ e ∷ ds))

-- the word and the blank with which the first line of a history begins
abbrev pub history_word : List ℕ
history_word = codes "HISTORY "

-- how many entries the history has of which this is the first line
abbrev pub count_in : List ℕ → Option ℕ
count_in l = cond (bytes_eq (take 8 l) history_word) (plain_number (drop 8 l)) None

-- a first line of a history: how many lines stand before it, how many entries it says, and the lines behind it
pub record Head : Type 0 where
  pub place : ℕ
  pub count : ℕ
  pub lines : List (List ℕ)

abbrev pub later : Head → Head
later h = record { place = suc h.place; count = h.count; lines = h.lines }

abbrev pub head_by : Option ℕ → List (List ℕ) → Option Head → Option Head
head_by None ls found = option_map later found
head_by (Some n) ls found = Some (record { place = 0; count = n; lines = ls })

-- the first line among these that begins a history
abbrev pub head_in : List (List ℕ) → Option Head
head_in [] = None
head_in (l ∷ ls) = head_by (count_in l) ls (head_in ls)

-- The verdict behind a first line, which has this number.
abbrev pub IsVerdictBehind : Deck → Head → ℕ → Verdict → Type 0
IsVerdictBehind deck h first Yes = IsWhole deck h.count h.lines
IsVerdictBehind deck h first (No l) = (k : ℕ) × (l ≡ first + suc h.place + k) × IsOff deck h.count h.lines k

-- The verdict on lines, of which the first has this number: where none begins a history, the number behind the last.
abbrev pub IsVerdictOn : Deck → ℕ → Option Head → ℕ → Verdict → Type 0
IsVerdictOn deck all None first Yes = ⊥
IsVerdictOn deck all None first (No l) = l ≡ first + all
IsVerdictOn deck all (Some h) first v = IsVerdictBehind deck h first v

-- The verdict on a text, whose first line has this number: Yes where the lines behind its first `HISTORY n` are those of
-- a legal history of n entries, and TOLD; else No with the first line that can't stand there, or the one that is missing.
abbrev pub IsVerdict : Deck → List ℕ → ℕ → Verdict → Type 0
IsVerdict deck text first v = IsVerdictOn deck (length (lines_in text)) (head_in (lines_in text)) first v

-- A text has one verdict at most.
abbrev pub OneVerdict : Type 0
OneVerdict =
    (deck : Deck) (text : List ℕ) (first : ℕ) (v w : Verdict) → IsVerdict deck text first v
    → IsVerdict deck text first w → v ≡ w
