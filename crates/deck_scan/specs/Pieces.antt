-- A text as pieces, each spelled in its own way, and the lines of tokens that the pieces say.
use Rattle.std.specs.Prelude.{◌≡◌, ℕ, Bool, true, false, not, ◌||◌, ◌&&◌, ◌==◌, ◌+◌, ◌*◌, List, [], ◌∷◌, ◌++◌, length}
use Rattle.std.specs.Prelude.{filter, None, if◌then◌else◌}
use Rattle.std.specs.List.{list_all, list_any}
use Rattle.std.specs.Str.{bytes_eq}
use Rattle.grs_base.specs.Printed.{is_printable, quotes_doubled}
use Rattle.deck_scan.specs.declared.token.Token.{Token}
use Rattle.deck_scan.specs.declared.token.Token.TheVariants.{Word, Name, Open, Close, Comma, Equals, Stray, Unclosed}
use Rattle.deck_scan.specs.declared.token.TokenLine.{TokenLine}
use Rattle.deck_scan.specs.Bytes.{begins, is_word, is_hex, digit, bad_line}

-- What a text is made of: a word; a quoted name; what stands between X' and the next quote; a sign;
-- a blank; a comment; the end of a line. And what is faulty: a slash that begins no comment; another
-- byte that begins no token; a quoted name, a hexadecimal name or a comment that is not closed.
pub data Piece : Type 0 where
  Plain : List ℕ → Piece
  Quoted : List ℕ → Piece
  Hexed : List ℕ → Piece
  Sign : Token → Piece
  Blank : Piece
  Comment : List ℕ → Piece
  LineEnd : Piece
  LoneSlash : Piece
  StrayByte : ℕ → Piece
  OpenQuote : List ℕ → Piece
  OpenHexed : List ℕ → Piece
  OpenComment : List ℕ → Piece

abbrev pub sign : Token → ℕ
sign Open = 40
sign Close = 41
sign Comma = 44
sign Equals = 61
sign _ = 0

-- How a piece is spelled. A quote in a quoted name is written twice.
abbrev pub spelling : Piece → List ℕ
spelling (Plain w) = w
spelling (Quoted n) = 39 ∷ (quotes_doubled n ++ 39 ∷ [])
spelling (Hexed ds) = 88 ∷ 39 ∷ (ds ++ 39 ∷ [])
spelling (Sign t) = sign t ∷ []
spelling Blank = 32 ∷ []
spelling (Comment c) = 47 ∷ 42 ∷ (c ++ 42 ∷ 47 ∷ [])
spelling LineEnd = 10 ∷ []
spelling LoneSlash = 47 ∷ []
spelling (StrayByte b) = b ∷ []
spelling (OpenQuote n) = 39 ∷ quotes_doubled n
spelling (OpenHexed ds) = 88 ∷ 39 ∷ ds
spelling (OpenComment c) = 47 ∷ 42 ∷ c

abbrev pub spelled : List Piece → List ℕ
spelled [] = []
spelled (p ∷ ps) = spelling p ++ spelled ps

-- Whether no star and slash stand side by side.
abbrev pub has_no_end : List ℕ → Bool
has_no_end [] = true
has_no_end (b ∷ bs) = not (b == 42 && begins 47 bs) && has_no_end bs

-- A comment may go over lines.
abbrev pub is_in_comment : ℕ → Bool
is_in_comment b = is_printable b || b == 10

abbrev pub is_between_quotes : ℕ → Bool
is_between_quotes b = is_printable b && not (b == 39)

abbrev pub is_sign : Token → Bool
is_sign Open = true
is_sign Close = true
is_sign Comma = true
is_sign Equals = true
is_sign _ = false

abbrev pub blank : ℕ
blank = 32

abbrev pub quote : ℕ
quote = 39

abbrev pub slash : ℕ
slash = 47

-- The bytes that stand by themselves: the blank, the signs and the slash.
abbrev pub singles : List ℕ
singles = blank ∷ sign Open ∷ sign Close ∷ sign Comma ∷ sign Equals ∷ slash ∷ []

abbrev pub is_one_of : List ℕ → ℕ → Bool
is_one_of bytes b = list_any (λ n. b == n) bytes

abbrev pub is_single : ℕ → Bool
is_single b = is_one_of singles b

-- A quote, or a byte that stands by itself.
abbrev pub is_mark : ℕ → Bool
is_mark b = is_one_of (quote ∷ singles) b

abbrev pub is_nonempty : List ℕ → Bool
is_nonempty [] = false
is_nonempty (b ∷ bs) = true

-- Which bytes a piece may hold.
abbrev pub is_piece : Piece → Bool
is_piece (Plain w) = is_nonempty w && list_all is_word w
is_piece (Quoted n) = list_all is_printable n
is_piece (Hexed ds) = list_all is_between_quotes ds
is_piece (Sign t) = is_sign t
is_piece Blank = true
is_piece (Comment c) = has_no_end c && list_all is_in_comment c
is_piece LineEnd = true
is_piece LoneSlash = true
is_piece (StrayByte b) = is_printable b && not (is_word b || is_mark b)
is_piece (OpenQuote n) = list_all is_printable n
is_piece (OpenHexed ds) = list_all is_between_quotes ds
is_piece (OpenComment c) = has_no_end c && list_all is_in_comment c

-- Which byte may stand directly behind a piece, so that the piece is as long as it can be: a word goes
-- on as long as there are plain bytes, and X before a quote begins a hexadecimal name; a quote behind a
-- quoted name would be part of it; a slash before a star begins a comment; an open name ends with its
-- line, and an open comment with the text.
abbrev pub may_follow : Piece → ℕ → Bool
may_follow (Plain w) b = not (is_word b) && not (b == 39 && bytes_eq w (88 ∷ []))
may_follow (Quoted n) b = not (b == 39)
may_follow LoneSlash b = not (b == 42)
may_follow (OpenQuote n) b = b == 10
may_follow (OpenHexed ds) b = b == 10
may_follow (OpenComment c) b = false
may_follow _ b = true

abbrev pub followed_by : Piece → List ℕ → Bool
followed_by p [] = true
followed_by p (b ∷ bs) = may_follow p b

abbrev pub are_pieces : List Piece → Bool
are_pieces [] = true
are_pieces (p ∷ ps) = is_piece p && (followed_by p (spelled ps) && are_pieces ps)

-- Whether these are pairs of hexadecimal digits, and the bytes that the pairs stand for.
abbrev pub is_hexed : List ℕ → Bool
is_hexed [] = true
is_hexed (a ∷ []) = false
is_hexed (a ∷ b ∷ ds) = is_hex a && (is_hex b && is_hexed ds)

abbrev pub unhex : List ℕ → List ℕ
unhex [] = []
unhex (a ∷ []) = []
unhex (a ∷ b ∷ ds) = (16 * digit a + digit b) ∷ unhex ds

abbrev pub hex_token : List ℕ → Token
hex_token ds = if is_hexed ds then Name (unhex ds) else Stray

-- The lines with one more; a line without tokens is blank, and nothing is kept of it.
abbrev pub lines_with : ℕ → List Token → Bool → List TokenLine → List TokenLine
lines_with at tokens joined lines =
    if length tokens == 0 then lines else lines ++ record { at = at; tokens = tokens; joined = joined } ∷ []

-- Where a text stands: the number of the line; the tokens of the line so far; whether the line has one
-- token, a word, and nothing stood behind it yet; whether a token stood directly behind the first word;
-- the lines before.
pub record Place : Type 0 where
  pub line : ℕ
  pub tokens : List Token
  pub near : Bool
  pub joined : Bool
  pub lines : List TokenLine

abbrev pub with_token : Token → Place → Place
with_token t p = record p { tokens = p.tokens ++ t ∷ []; joined = p.joined || p.near; near = false }

abbrev pub with_word : List ℕ → Place → Place
with_word w p = record (with_token (Word w) p) { near = length p.tokens == 0 }

-- An opening parenthesis joins no word.
abbrev pub with_sign : Token → Place → Place
with_sign Open p = record (with_token Open p) { joined = p.joined }
with_sign t p = with_token t p

abbrev pub apart : Place → Place
apart p = record p { near = false }

abbrev pub next_line : Place → Place
next_line p = record {
  line = p.line + 1;
  tokens = [];
  near = false;
  joined = false;
  lines = lines_with p.line p.tokens p.joined p.lines;
}

-- The ends of lines in a comment count, all else is blank.
abbrev pub over : List ℕ → Place → Place
over [] p = p
over (b ∷ bs) p = over bs (if b == 10 then next_line p else p)

-- A comment that is not closed is a line of its own, with the number of the line where it begins.
abbrev pub over_open : List ℕ → Place → Place
over_open c p = record (with_token Unclosed (next_line (over c (apart p)))) { line = p.line }

-- Where the text stands behind a piece.
abbrev pub past : Piece → Place → Place
past (Plain w) p = with_word w p
past (Quoted n) p = with_token (Name n) p
past (Hexed ds) p = with_token (hex_token ds) p
past (Sign t) p = with_sign t p
past Blank p = apart p
past (Comment c) p = over c (apart p)
past LineEnd p = next_line p
past LoneSlash p = with_token Stray p
past (StrayByte b) p = with_token Stray p
past (OpenQuote n) p = with_token Stray p
past (OpenHexed ds) p = with_token Stray p
past (OpenComment c) p = over_open c p

abbrev pub past_all : List Piece → Place → Place
past_all [] p = p
past_all (q ∷ qs) p = past_all qs (past q p)

abbrev pub first_place : Place
first_place = record { line = 1; tokens = []; near = false; joined = false; lines = [] }

-- The lines that pieces say.
abbrev pub lines_said : List Piece → List TokenLine
lines_said ps = (next_line (past_all ps first_place)).lines

-- A text without its CRs. Each stands before an LF, in an allowed text.
abbrev pub without_cr : List ℕ → List ℕ
without_cr text = filter (λ b. not (b == 13)) text

-- A text spells these lines: it has no byte that a deck may not have, it is spelled by pieces, and the
-- pieces say the lines.
pub record SpellsLines (text : List ℕ) (lines : List TokenLine) : Type 0 where
  pub allowed : bad_line 1 text ≡ None
  pub pieces : List Piece
  pub spells : without_cr text ≡ spelled pieces
  pub are : are_pieces pieces ≡ true
  pub says : lines ≡ lines_said pieces
