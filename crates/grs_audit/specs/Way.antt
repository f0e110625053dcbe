-- What is printed of a legal history, line by line, and which lines are on the way to it.
use Rattle.std.specs.Prelude.{◌≡◌, ◌<◌, ◌≤◌, ℕ, suc, ◌==◌, cond, List, [], ◌∷◌, ◌++◌, length, take, codes}
use Rattle.grs_wire.specs.declared.deck.Deck.{Deck}
use Rattle.grs_wire.specs.declared.history.HistEntry.{HistEntry}
use Rattle.grs_legal.specs.Legal.{Legal}
use Rattle.grs_display.specs.Names.{names_of}
use Rattle.grs_report.specs.History.{history_lines}
use Rattle.grs_audit.specs.Lines.{lines_in}

-- the line behind a history
abbrev pub told_word : List ℕ
told_word = codes "TOLD"

-- the lines that are printed of entries, of which the first has this number
abbrev pub printed : Deck → ℕ → List HistEntry → List (List ℕ)
printed deck number hist = lines_in (history_lines (names_of deck) number hist)

-- the line behind a history, where it has as many entries as are wanted
abbrev pub told_behind : ℕ → ℕ → List (List ℕ)
told_behind n count = cond (count == n) (told_word ∷ []) []

-- the lines behind `HISTORY n` as far as a history leads: its own, and TOLD behind n entries
abbrev pub way : Deck → ℕ → List HistEntry → List (List ℕ)
way deck n hist = printed deck 1 hist ++ told_behind n (length hist)

-- Lines are a front of what is printed of a legal history of at most n entries, TOLD counting as the line behind n.
pub record IsOnTheWay (deck : Deck) (n : ℕ) (ls : List (List ℕ)) : Type 0 where
  pub hist : List HistEntry
  pub legal : Legal deck hist
  pub few : length hist ≤ n
  pub rest : List (List ℕ)
  pub front : way deck n hist ≡ ls ++ rest

-- Lines begin with what is printed of a legal history of n entries, and TOLD.
pub record IsWhole (deck : Deck) (n : ℕ) (ls : List (List ℕ)) : Type 0 where
  pub hist : List HistEntry
  pub legal : Legal deck hist
  pub count : length hist ≡ n
  pub rest : List (List ℕ)
  pub begins : ls ≡ way deck n hist ++ rest

-- So many of these lines are on the way, and with the next one, if there is one, they aren't; nor do they begin with a
-- whole history.
pub record IsOff (deck : Deck) (n : ℕ) (ls : List (List ℕ)) (k : ℕ) : Type 0 where
  pub whole : IsWhole deck n ls → ⊥
  pub within : k ≤ length ls
  pub on : IsOnTheWay deck n (take k ls)
  pub off : k < length ls → IsOnTheWay deck n (take (suc k) ls) → ⊥
