-- A text that is read line by line: what is read of one line, and which lines are still to come.
use Rattle.std.specs.Prelude.{◌≡◌, ◌⊎◌, ℕ, Bool, true, false, not, ◌&&◌, ◌||◌, ◌==◌, ◌<◌, ◌+◌, List, [], ◌∷◌, ◌++◌}
use Rattle.std.specs.Prelude.{length, Option, Some, None, if◌then◌else◌}
use Rattle.std.specs.List.{list_all}
use Rattle.grs_base.specs.Printed.{is_printable, quotes_doubled}
use Rattle.deck_scan.specs.declared.token.Token.{Token}
use Rattle.deck_scan.specs.declared.token.Token.TheVariants.{Word, Open, Close, Comma, Equals, Stray}
use Rattle.deck_scan.specs.declared.token.TokenLine.{TokenLine}
use Rattle.deck_scan.specs.declared.row.ScannedLine.{ScannedLine}
use Rattle.deck_scan.specs.declared.cursor.Cursor.{Cursor}
use Rattle.deck_scan.specs.Bytes.{begins, is_allowed}
use Rattle.deck_scan.specs.AnyBytes.{readable}
use Rattle.deck_scan.specs.Pieces.{Piece, spelling, has_no_end, is_piece, may_follow, followed_by, lines_with, Place}
use Rattle.deck_scan.specs.Pieces.{past}
use Rattle.deck_scan.specs.Scan.{Scan, InBlank, InComment, end_line, scan_from, finish_in}

-- ---- which lines are to come

-- Nothing is read yet of a line; a comment stands open that began on this line, or none.
abbrev pub at_row : ℕ → Option ℕ → Scan
at_row line None = record {
  line = line;
  begun = 0;
  high = 0;
  mode = InBlank;
  part = [];
  tokens = [];
  near = false;
  joined = false;
  lines = [];
}
at_row line (Some begun) = record {
  line = line;
  begun = begun;
  high = 0;
  mode = InComment;
  part = [];
  tokens = [];
  near = false;
  joined = false;
  lines = [];
}

-- The lines of a text from here on.
abbrev pub lines_from : Scan → List ℕ → List TokenLine
lines_from s text = (end_line (finish_in (scan_from s text).mode (scan_from s text))).lines

-- The lines of a text of any bytes, of which nothing is read yet, that begins on this line, where a comment
-- stands open that began on that line.
unfoldable pub to_come : ℕ → Option ℕ → List ℕ → List TokenLine
to_come line begun text = lines_from (at_row line begun) (readable text)

abbrev pub coming : Cursor → List TokenLine
coming c = to_come c.line c.begun c.rest.now

-- The next line was taken, and these are still to come; or none was.
abbrev pub Next : Option TokenLine → List TokenLine → List TokenLine → Type 0
Next (Some l) before after = before ≡ l ∷ after
Next None before after = (before ≡ []) × (after ≡ [])

-- The word that a token is, if it is one.
abbrev pub word_in : Token → Option (List ℕ)
word_in (Word w) = Some w
word_in _ = None

abbrev pub front_word : List Token → Option (List ℕ)
front_word [] = None
front_word (t ∷ ts) = word_in t

-- The word with which lines begin, if they begin with one.
abbrev pub first_word : List TokenLine → Option (List ℕ)
first_word [] = None
first_word (l ∷ ls) = front_word l.tokens

-- ---- what is read of one line

-- Where a text stands behind what was read of a line, without the lines before it.
abbrev pub place : ℕ → ScannedLine → Place
place line r = record { line = line; tokens = r.tokens; near = r.near; joined = r.joined; lines = [] }

-- A line with one token more.
abbrev pub row_with : Token → ScannedLine → ScannedLine
row_with t r = record r { tokens = r.tokens ++ t ∷ []; joined = r.joined || r.near; near = false }

-- A line behind a blank, a sign or a slash.
unfoldable pub after_mark : ℕ → ScannedLine → ScannedLine
after_mark b r =
    if b == 32 then record r { near = false }
    else if b == 40 then record (row_with Open r) { joined = r.joined }
    else if b == 41 then row_with Close r
    else if b == 44 then row_with Comma r
    else if b == 61 then row_with Equals r
    else row_with Stray r

abbrev pub no_row : Option ℕ → ScannedLine
no_row begun = record { tokens = []; near = false; joined = false; begun = begun }

-- One piece was taken from the front of a text: behind it this rest stands. It may end with its line.
pub record Takes (text : List ℕ) (old : ScannedLine) (rest : List ℕ) (new : ScannedLine) : Type 0 where
  pub piece : Piece
  pub is : is_piece piece ≡ true
  pub parts : text ≡ spelling piece ++ rest
  pub follows : followed_by piece rest ≡ true
  pub ends : may_follow piece 10 ≡ true
  pub says : (line : ℕ) → place line new ≡ past piece (place line old)
  pub begun : new.begun ≡ old.begun

-- This was read of a line, where a comment stands open that began on this line, or none: whatever stands on
-- further lines, the line's own tokens come first, and then what comes behind it.
pub record IsRow (line : ℕ) (begun : Option ℕ) (row : List ℕ) (read : ScannedLine) : Type 0 where
  pub goes : (more : List ℕ)
      → to_come line begun (row ++ 10 ∷ more)
      ≡ lines_with line read.tokens read.joined [] ++ to_come (line + 1) read.begun more
  pub ends : to_come line begun row ≡ lines_with line read.tokens read.joined [] ++ to_come line read.begun []

-- This was read of the last line of a text: its tokens come first, and then what comes behind it.
abbrev pub IsLast : ℕ → Option ℕ → List ℕ → ScannedLine → Type 0
IsLast line begun text read =
    to_come line begun text ≡ lines_with line read.tokens read.joined [] ++ to_come line read.begun []

-- A line was taken from the front of the text: its tokens come first, and then what comes behind it.
pub record Passes (from : Cursor) (read : ScannedLine) (to : Cursor) : Type 0 where
  pub comes : coming from ≡ lines_with from.line read.tokens read.joined [] ++ coming to
  pub shorter : length to.rest.now < length from.rest.now

-- ---- where things end

abbrev pub starts : (ℕ → Bool) → List ℕ → Bool
starts p [] = false
starts p (b ∷ bs) = p b

abbrev pub is_no_quote : ℕ → Bool
is_no_quote b = not (b == 39)

-- A text is cut before its first byte of another kind.
pub record IsSplit (p : ℕ → Bool) (text front back : List ℕ) : Type 0 where
  pub parts : text ≡ front ++ back
  pub every : list_all p front ≡ true
  pub ends : starts p back ≡ false

-- Two quotes stand here.
abbrev pub is_doubled : List ℕ → Bool
is_doubled [] = false
is_doubled (b ∷ bs) = begins 39 bs

-- Nothing stands here, or a quote that closes a name.
abbrev pub closes_name : List ℕ → Bool
closes_name [] = true
closes_name (b ∷ bs) = b == 39 && not (begins 39 bs)

-- A text begins with this name, each quote in it written twice, and then comes the quote that closes it, or nothing.
pub record Unquotes (text name back : List ℕ) : Type 0 where
  pub parts : text ≡ quotes_doubled name ++ back
  pub every : list_all is_printable name ≡ true
  pub ends : closes_name back ≡ true

-- A comment is closed in this text, and then this stands.
pub record ClosesComment (text rest : List ℕ) : Type 0 where
  pub inside : List ℕ
  pub parts : text ≡ inside ++ 42 ∷ 47 ∷ rest
  pub first : has_no_end inside ≡ true

-- A line ends in front of this rest.
abbrev pub EndsLine : List ℕ → List ℕ → Type 0
EndsLine text rest = (text ≡ 10 ∷ rest) ⊎ (text ≡ 13 ∷ 10 ∷ rest)

abbrev pub begins_end : List ℕ → Bool
begins_end [] = false
begins_end (b ∷ bs) = b == 10 || (b == 13 && begins 10 bs)

-- ---- what stands between tokens

-- A blank, the end of a line or the begin of a comment stands here.
abbrev pub begins_gap : List ℕ → Bool
begins_gap [] = false
begins_gap (b ∷ bs) = b == 32 || (b == 10 || ((b == 13 && begins 10 bs) || (b == 47 && begins 42 bs)))

-- Nothing stands here, or a byte that a deck may not have.
abbrev pub ends_text : List ℕ → Bool
ends_text [] = true
ends_text (b ∷ bs) = not (is_allowed b bs)

-- Where no comment stands open, no gap stands here; where one does, the text ends in it.
abbrev pub is_at_token : Option ℕ → List ℕ → Bool
is_at_token None text = not (begins_gap text)
is_at_token (Some begun) text = ends_text text

-- A part of a gap was gone over: the same lines are to come.
pub record GoesOver (from to : Cursor) : Type 0 where
  pub same : coming to ≡ coming from
  pub shorter : length to.rest.now < length from.rest.now
