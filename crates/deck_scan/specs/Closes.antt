-- How many closing parentheses a text has: those that are tokens, and stand in no name and in no comment.
use Rattle.std.specs.Prelude.{◌≤◌, ◌<◌, ◌+◌, ◌==◌, ◌&&◌, ◌||◌, ℕ, Bool, true, false, List, [], ◌∷◌, length, take}
use Rattle.std.specs.Prelude.{if◌then◌else◌}
use Rattle.deck_scan.specs.declared.token.Token.{Token}
use Rattle.deck_scan.specs.declared.token.Token.TheVariants.{Close}
use Rattle.deck_scan.specs.declared.token.TokenLine.{TokenLine}
use Rattle.deck_scan.specs.declared.closes.Open.{Open}
use Rattle.deck_scan.specs.declared.closes.Open.TheVariants.{Nothing, Slash, X, Word, Quoted, Hexed, Comment, Star}
use Rattle.deck_scan.specs.Bytes.{is_word}
use Rattle.deck_scan.specs.Scan.{lines_of}

abbrev pub weight : Token → ℕ
weight Close = 1
weight _ = 0

-- How many tokens are closing parentheses, on one line and on all.
abbrev pub closes : List Token → ℕ
closes [] = 0
closes (t ∷ ts) = weight t + closes ts

abbrev pub all_closes : List TokenLine → ℕ
all_closes [] = 0
all_closes (l ∷ ls) = closes l.tokens + all_closes ls

-- So many bytes of a text are the fewest that have at least so many closing parentheses.
pub record HaveCloses (text : List ℕ) (n used : ℕ) : Type 0 where
  pub within : used ≤ length text
  pub has : n ≤ all_closes (lines_of (take used text))
  pub fewest : (k : ℕ) → k < used → all_closes (lines_of (take k text)) < n

-- ---- as the reader finds them

-- What a byte opens where nothing stands open.
unfoldable pub begun : ℕ → Open
begun b =
    if b == 39 then Quoted else if b == 47 then Slash else if b == 88 then X else if is_word b then Word else Nothing

abbrev pub in_word : ℕ → Open
in_word b = if is_word b then Word else begun b

abbrev pub in_name : Open → ℕ → Open
in_name o b = if b == 39 || b == 10 then Nothing else o

-- What stands open behind a byte, by what stood open.
abbrev pub opened_in : Open → ℕ → Open
opened_in Nothing b = begun b
opened_in Slash b = if b == 42 then Comment else begun b
opened_in X b = if b == 39 then Hexed else in_word b
opened_in Word b = in_word b
opened_in Quoted b = in_name Quoted b
opened_in Hexed b = in_name Hexed b
opened_in Comment b = if b == 42 then Star else Comment
opened_in Star b = if b == 47 then Nothing else if b == 42 then Star else Comment

abbrev pub opened : Open → ℕ → Open
opened o b = if b == 13 then o else opened_in o b

abbrev pub is_nothing : Open → Bool
is_nothing Nothing = true
is_nothing _ = false

-- Behind this byte so much stands open: it is a closing parenthesis, and part of nothing that stands open.
abbrev pub is_closing : ℕ → Open → Bool
is_closing b o = b == 41 && is_nothing o
