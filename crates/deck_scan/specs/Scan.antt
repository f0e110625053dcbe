-- The tokens of a text, line by line, as one pass over its bytes finds them.
use Rattle.std.specs.Prelude.{ℕ, Bool, false, ◌&&◌, ◌||◌, ◌==◌, ◌+◌, ◌*◌, List, [], ◌∷◌, ◌++◌, length, if◌then◌else◌}
use Rattle.std.specs.Str.{bytes_eq}
use Rattle.deck_scan.specs.declared.token.Token.TheVariants.{Word, Name, Open, Close, Comma, Equals, Stray, Unclosed}
use Rattle.deck_scan.specs.declared.token.Token.{Token}
use Rattle.deck_scan.specs.declared.token.TokenLine.{TokenLine}
use Rattle.deck_scan.specs.Bytes.{is_word, is_hex, digit}
use Rattle.deck_scan.specs.Pieces.{lines_with}

-- What stands open between two bytes: nothing; a slash, which begins a comment or is stray; a word; a quoted name, or a
-- quote in it, which ends it or is the first of two; a hexadecimal name, of which the digits so far are pairs, or one
-- stands behind these, or one is wrong; a comment, or a star in it, which a slash would end.
pub data Mode : Type 0 where
  InBlank : Mode
  AfterSlash : Mode
  InWord : Mode
  InQuote : Mode
  AfterQuote : Mode
  InHex : Mode
  InHexLow : Mode
  InBadHex : Mode
  InComment : Mode
  AfterStar : Mode

-- What has been read: the number of the line, from 1; the line on which the last comment began; the first of two
-- hexadecimal digits; what stands open, and the bytes of its token; the tokens of this line; whether these are one
-- word, and nothing stood behind it yet; whether a token stood directly behind the line's first word; the lines before.
pub record Scan : Type 0 where
  pub line : ℕ
  pub begun : ℕ
  pub high : ℕ
  pub mode : Mode
  pub part : List ℕ
  pub tokens : List Token
  pub near : Bool
  pub joined : Bool
  pub lines : List TokenLine

-- The token ends what stood open. Directly behind the first word it joins it.
unfoldable pub put : Token → Scan → Scan
put t s = record s { tokens = s.tokens ++ t ∷ []; joined = s.joined || s.near; near = false; part = []; mode = InBlank }

-- The first word of a line may be joined by what follows.
unfoldable pub put_word : Scan → Scan
put_word s = record (put (Word s.part) s) { near = length s.tokens == 0 }

-- An opening parenthesis joins no word.
unfoldable pub put_open : Scan → Scan
put_open s = record (put Open s) { joined = s.joined }

-- The line ends.
unfoldable pub end_line : Scan → Scan
end_line s =
    record s {
      line = s.line + 1;
      lines = lines_with s.line s.tokens s.joined s.lines;
      tokens = [];
      joined = false;
      near = false;
    }

-- The line ends within a token.
unfoldable pub break_off : Scan → Scan
break_off s = end_line (put Stray s)

-- A byte that is no blank, no line end and no sign begins a word or is no token.
unfoldable pub begin_word : Scan → ℕ → Scan
begin_word s b = if is_word b then record s { part = s.part ++ b ∷ []; mode = InWord } else put Stray s

-- A byte where nothing stands open.
unfoldable pub begin : Scan → ℕ → Scan
begin s b =
    if b == 32 then record s { near = false }
    else if b == 10 then end_line s
    else if b == 39 then record s { mode = InQuote }
    else if b == 47 then record s { mode = AfterSlash }
    else if b == 40 then put_open s
    else if b == 41 then put Close s
    else if b == 44 then put Comma s
    else if b == 61 then put Equals s
    else begin_word s b

abbrev pub is_x : List ℕ → Bool
is_x part = bytes_eq part (88 ∷ [])

-- A byte, by what stands open.
unfoldable pub step_in : Mode → Scan → ℕ → Scan
step_in InBlank s b = begin s b
step_in AfterSlash s b =
    if b == 42 then record s { begun = s.line; near = false; mode = InComment } else begin (put Stray s) b
step_in InWord s b =
    if is_word b then record s { part = s.part ++ b ∷ [] }
    else if b == 39 && is_x s.part then record s { part = []; mode = InHex }
    else begin (put_word s) b
step_in InQuote s b =
    if b == 39 then record s { mode = AfterQuote }
    else if b == 10 then break_off s
    else record s { part = s.part ++ b ∷ [] }
step_in AfterQuote s b =
    if b == 39 then record s { part = s.part ++ 39 ∷ []; mode = InQuote }
    else begin (put (Name s.part) s) b
step_in InHex s b =
    if b == 39 then put (Name s.part) s
    else if b == 10 then break_off s
    else if is_hex b then record s { high = b; mode = InHexLow }
    else record s { mode = InBadHex }
step_in InHexLow s b =
    if b == 39 then put Stray s
    else if b == 10 then break_off s
    else if is_hex b then record s { part = s.part ++ (16 * digit s.high + digit b) ∷ []; mode = InHex }
    else record s { mode = InBadHex }
step_in InBadHex s b =
    if b == 39 then put Stray s
    else if b == 10 then break_off s
    else s
step_in InComment s b =
    if b == 42 then record s { mode = AfterStar }
    else if b == 10 then end_line s
    else s
step_in AfterStar s b =
    if b == 47 then record s { mode = InBlank }
    else if b == 42 then s
    else if b == 10 then end_line (record s { mode = InComment })
    else record s { mode = InComment }

-- A CR stands before an LF, and is dropped.
unfoldable pub step : Scan → ℕ → Scan
step s b = if b == 13 then s else step_in s.mode s b

unfoldable pub scan_from : Scan → List ℕ → Scan
scan_from s [] = s
scan_from s (b ∷ bs) = scan_from (step s b) bs

-- The end of the text ends what stands open.
unfoldable pub finish_in : Mode → Scan → Scan
finish_in InBlank s = s
finish_in AfterSlash s = put Stray s
finish_in InWord s = put_word s
finish_in InQuote s = put Stray s
finish_in AfterQuote s = put (Name s.part) s
finish_in InHex s = put Stray s
finish_in InHexLow s = put Stray s
finish_in InBadHex s = put Stray s
finish_in InComment s = put Unclosed (record (end_line s) { line = s.begun })
finish_in AfterStar s = put Unclosed (record (end_line s) { line = s.begun })

abbrev pub start : Scan
start = record {
  line = 1;
  begun = 0;
  high = 0;
  mode = InBlank;
  part = [];
  tokens = [];
  near = false;
  joined = false;
  lines = [];
}

unfoldable pub lines_of : List ℕ → List TokenLine
lines_of text = (end_line (finish_in (scan_from start text).mode (scan_from start text))).lines
