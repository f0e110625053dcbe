-- Kinds of bytes, and the first byte that a deck may not have.
use Rattle.std.specs.Prelude.{◌≡◌, ◌++◌, ℕ, Bool, true, false, ◌||◌, ◌&&◌, ◌==◌, ◌+◌, ◌-◌, List, [], ◌∷◌, Option, Some}
use Rattle.std.specs.Prelude.{None, if◌then◌else◌}
use Rattle.grs_base.specs.Printed.{is_between, is_plain_byte, is_printable}

-- A byte of a plain name: a letter of either case, a digit, or one of $ # @ . _ - * ?
unfoldable pub is_word : ℕ → Bool
is_word b = is_plain_byte b

-- A hexadecimal digit of either case.
unfoldable pub is_hex : ℕ → Bool
is_hex b = is_between 48 57 b || is_between 65 70 b || is_between 97 102 b

-- What a hexadecimal digit counts.
unfoldable pub digit : ℕ → ℕ
digit b =
    if is_between 48 57 b
    then b - 48
    else if is_between 65 70 b
    then b - 55
    else if is_between 97 102 b
    then b - 87
    else 0

-- Whether a text begins with this byte.
abbrev pub begins : ℕ → List ℕ → Bool
begins n [] = false
begins n (b ∷ rest) = b == n

-- A deck may have the bytes 20 to 7E, LF, and CR directly before LF.
unfoldable pub is_allowed : ℕ → List ℕ → Bool
is_allowed b rest = is_printable b || b == 10 || (b == 13 && begins 10 rest)

-- The line of the first byte that a deck may not have, where the text begins on this line.
unfoldable pub bad_line : ℕ → List ℕ → Option ℕ
bad_line line [] = None
bad_line line (b ∷ rest) = if is_allowed b rest then bad_line (if b == 10 then line + 1 else line) rest else Some line

-- Whether a deck may have each byte of a text, before this rest.
abbrev pub are_allowed : List ℕ → List ℕ → Bool
are_allowed [] rest = true
are_allowed (b ∷ bs) rest = is_allowed b (bs ++ rest) && are_allowed bs rest

-- How many lines end in a text.
abbrev pub line_ends : List ℕ → ℕ
line_ends [] = 0
line_ends (b ∷ bs) = (if b == 10 then 1 else 0) + line_ends bs

-- Where a text begins on the first line, this is the line of a byte that a deck may not have, behind
-- bytes that it may have.
pub record IsFirstBad (first : ℕ) (text : List ℕ) (line : ℕ) : Type 0 where
  pub before : List ℕ
  pub byte : ℕ
  pub behind : List ℕ
  pub parts : text ≡ before ++ byte ∷ behind
  pub good : are_allowed before (byte ∷ behind) ≡ true
  pub bad : is_allowed byte behind ≡ false
  pub at : line ≡ first + line_ends before
