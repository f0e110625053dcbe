-- The line that a text of one task line spells, or its fault. The text may have any length and any bytes: a
-- byte that a deck may not have is part of no statement.
use Rattle.std.specs.Prelude.{◌≡◌, ◌⊎◌, ℕ, Bool, true, false, List, [], ◌∷◌, Option, Some, None, Result, Ok, Err}
use Rattle.std.specs.Prelude.{if◌then◌else◌}
use Rattle.grs_base.specs.declared.fault.DeckFault.{DeckFault}
use Rattle.grs_base.specs.declared.fault.Kind.{Kind}
use Rattle.grs_base.specs.declared.fault.Kind.TheVariants.{UnknownStatement, BadOperand, NameLength}
use Rattle.grs_base.specs.declared.fault.ReadError.{ReadError}
use Rattle.grs_base.specs.declared.fault.ReadError.TheVariants as read_errors
use Rattle.grs_base.specs.declared.line.Line.{Line}
use Rattle.deck_scan.specs.declared.token.Token.{Token}
use Rattle.deck_scan.specs.declared.token.Token.TheVariants.{Word, Unclosed}
use Rattle.deck_scan.specs.declared.token.TokenLine.{TokenLine}
use Rattle.deck_scan.specs.Gives.{◌>>=◌, refused, or_bad}
use Rattle.deck_scan.specs.Pieces.{SpellsLines}
use Rattle.deck_scan.specs.AnyBytes.{readable}
use Rattle.job_syntax.specs.declared.line_ask.LineAsk.{LineAsk}
use Rattle.job_syntax.specs.declared.line_ask.LineWord.{LineWord}
use Rattle.job_syntax.specs.LineAsk.{line_word, line_ask_at}
use Rattle.job_syntax.specs.Spelled.{IsWord, IsLineAsk}
use Rattle.job_syntax.specs.Lines.{has_bad_name, line_of}

-- ---- as the reader finds them

abbrev pub line_ask_by : ℕ → Option LineWord → List Token → Result LineAsk DeckFault
line_ask_by at (Some v) ts = or_bad at (line_ask_at v ts)
line_ask_by at None ts = refused at UnknownStatement

-- A first word that begins no task line is no statement word here; an unclosed comment is wrong for itself.
abbrev pub line_ask_first : ℕ → List Token → Result LineAsk DeckFault
line_ask_first at (Word w ∷ ts) = line_ask_by at (line_word w) ts
line_ask_first at (Unclosed ∷ ts) = refused at BadOperand
line_ask_first at _ = refused at UnknownStatement

-- Nothing but a parenthesis stands directly behind the first word.
unfoldable pub line_ask_on : TokenLine → Result LineAsk DeckFault
line_ask_on l = if l.joined then refused l.at UnknownStatement else line_ask_first l.at l.tokens

abbrev pub sized : ℕ → LineAsk → Result LineAsk DeckFault
sized at s = if has_bad_name s then refused at NameLength else Ok s

-- A further statement is wrong where it begins.
abbrev pub alone : LineAsk → List TokenLine → Result Line DeckFault
alone s [] = Ok (line_of s)
alone s (l ∷ ls) = refused l.at BadOperand

abbrev pub sized_alone : ℕ → LineAsk → List TokenLine → Result Line DeckFault
sized_alone at s ls = sized at s >>= λ t. alone t ls

-- A text without a statement is told as an unknown one on its first line.
unfoldable pub one_line : List TokenLine → Result Line DeckFault
one_line [] = refused 1 UnknownStatement
one_line (l ∷ ls) = line_ask_on l >>= λ s. sized_alone l.at s ls

-- ---- which texts spell which line

-- A text spells a line of a task: it has one line of tokens, and that spells the task line, whose names are
-- right.
pub record SpellsLine (text : List ℕ) (line : Line) : Type 0 where
  pub tokens : TokenLine
  pub spelled : SpellsLines (readable text) (tokens ∷ [])
  pub apart : tokens.joined ≡ false
  pub line_ask : LineAsk
  pub says : IsLineAsk tokens.tokens line_ask
  pub names : has_bad_name line_ask ≡ false
  pub makes : line_of line_ask ≡ line

-- ---- which fault a text has

-- The first word of tokens, if there is one, begins no task line. A comment that is not closed has no first
-- word, and is wrong for itself.
abbrev pub BeginsOtherwise : List Token → Type 0
BeginsOtherwise (Word w ∷ ts) = (v : LineWord) → IsWord v w → ⊥
BeginsOtherwise (Unclosed ∷ ts) = ⊥
BeginsOtherwise _ = Unit {0}

-- The first word of a line is none of a task line: something stands directly behind it, or it is another one.
abbrev pub NoWord : TokenLine → Type 0
NoWord l = (l.joined ≡ true) ⊎ BeginsOtherwise l.tokens

-- The word is right, and the form is none of a task line.
abbrev pub NoForm : TokenLine → Type 0
NoForm l = (NoWord l → ⊥) × ((s : LineAsk) → IsLineAsk l.tokens s → ⊥)

-- The line spells a task line, of names that are all right (false) or not (true).
abbrev pub IsTaskLine : Bool → TokenLine → Type 0
IsTaskLine bad l = (l.joined ≡ false) × ((s : LineAsk) × IsLineAsk l.tokens s × (has_bad_name s ≡ bad))

-- A further line stands, behind one without a fault, and begins here.
abbrev pub IsFurther : ℕ → TokenLine → List TokenLine → Type 0
IsFurther at l [] = ⊥
IsFurther at l (m ∷ ms) = (at ≡ m.at) × IsTaskLine false l

-- These lines have a fault of this kind here. A text without a line has the first kind on line 1.
abbrev pub IsWrong : Kind → ℕ → List TokenLine → Type 0
IsWrong UnknownStatement at [] = at ≡ 1
IsWrong UnknownStatement at (l ∷ ls) = (at ≡ l.at) × NoWord l
IsWrong BadOperand at (l ∷ ls) = ((at ≡ l.at) × NoForm l) ⊎ IsFurther at l ls
IsWrong NameLength at (l ∷ ls) = (at ≡ l.at) × IsTaskLine true l
IsWrong _ at ls = ⊥

-- A text of one task line has this fault.
pub record IsFault (text : List ℕ) (f : DeckFault) : Type 0 where
  pub lines : List TokenLine
  pub spelled : SpellsLines (readable text) lines
  pub wrong : IsWrong f.kind f.line lines

-- What is answered of a text: the line that it spells, or its fault. Want of memory is the only other answer.
abbrev pub Answers : Result Line ReadError → List ℕ → Type 0
Answers (Ok line) text = SpellsLine text line
Answers (Err read_errors.NoMemory) text = Unit {0}
Answers (Err (read_errors.Fault f)) text = IsFault text f
