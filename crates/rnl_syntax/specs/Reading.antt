-- The entry that a text makes whose first statement is an RNLDEF, and how many bytes that statement uses; or
-- the fault of the statement. The text may have any length and any bytes: a byte that a deck may not have is
-- part of no statement.
use Rattle.std.specs.Prelude.{◌≡◌, ◌⊎◌, ℕ, Bool, true, false, ◌==◌, ◌<◌, ◌≤◌, List, [], ◌∷◌, length, take, codes}
use Rattle.std.specs.Prelude.{Option, Some, None, is_none, Result, Ok, Err, if◌then◌else◌}
use Rattle.grs_base.specs.declared.fault.DeckFault.{DeckFault}
use Rattle.grs_base.specs.declared.fault.Kind.{Kind}
use Rattle.grs_base.specs.declared.fault.Kind.TheVariants.{UnknownStatement, BadOperand, NameLength}
use Rattle.grs_base.specs.declared.fault.ReadError.{ReadError}
use Rattle.grs_base.specs.declared.fault.ReadError.TheVariants as read_errors
use Rattle.grs_base.specs.declared.rnl.RnlEntry.{RnlEntry}
use Rattle.deck_scan.specs.declared.token.Token.{Token}
use Rattle.deck_scan.specs.declared.token.Token.TheVariants.{Word, Unclosed}
use Rattle.deck_scan.specs.declared.token.TokenLine.{TokenLine}
use Rattle.deck_scan.specs.Gives.{◌>>=◌, refused, or_bad, Fails}
use Rattle.deck_scan.specs.Pieces.{SpellsLines}
use Rattle.deck_scan.specs.AnyBytes.{readable}
use Rattle.deck_scan.specs.Scan.{lines_of}
use Rattle.rnl_syntax.specs.declared.operands.Rnldef.{Rnldef}
use Rattle.rnl_syntax.specs.Lines.{is_rnldef_word, first_from}
use Rattle.rnl_syntax.specs.Operands.{rnldef_at, has_bad_name, entry_of}
use Rattle.rnl_syntax.specs.Spelled.{IsRnldef}

-- ---- the first statement

-- The first statement of lines: the first line, with those that an RNLDEF goes on over.
abbrev pub first_statement : List TokenLine → Option TokenLine
first_statement [] = None
first_statement (l ∷ ls) = Some (first_from l ls)

-- ---- the entry, or the fault

abbrev pub by_word : ℕ → List ℕ → List Token → Result Rnldef DeckFault
by_word at w ts = if is_rnldef_word w then or_bad at (rnldef_at ts) else refused at UnknownStatement

-- A first word that isn't RNLDEF is no statement word here; an unclosed comment is wrong for itself.
abbrev pub by_first : ℕ → List Token → Result Rnldef DeckFault
by_first at (Word w ∷ ts) = by_word at w ts
by_first at (Unclosed ∷ ts) = refused at BadOperand
by_first at _ = refused at UnknownStatement

-- Nothing but a parenthesis stands directly behind the first word.
unfoldable pub rnldef_on : TokenLine → Result Rnldef DeckFault
rnldef_on s = if s.joined then refused s.at UnknownStatement else by_first s.at s.tokens

abbrev pub sized : ℕ → Rnldef → Result RnlEntry DeckFault
sized at d = if has_bad_name d then refused at NameLength else Ok (entry_of d)

-- A text without a statement is told as an unknown one on its first line.
abbrev pub entry_on : Option TokenLine → Result RnlEntry DeckFault
entry_on None = refused 1 UnknownStatement
entry_on (Some s) = rnldef_on s >>= λ d. sized s.at d

-- What is read of a text.
unfoldable pub reading : List ℕ → Result RnlEntry DeckFault
reading text = entry_on (first_statement (lines_of (readable text)))

-- ---- which texts make which entry

-- The first statement of a text is an RNLDEF of this entry.
pub record MakesEntry (text : List ℕ) (entry : RnlEntry) : Type 0 where
  pub lines : List TokenLine
  pub spelled : SpellsLines (readable text) lines
  pub statement : TokenLine
  pub first : first_statement lines ≡ Some statement
  pub apart : statement.joined ≡ false
  pub behind : List Token
  pub parts : statement.tokens ≡ Word (codes "RNLDEF") ∷ behind
  pub rnldef : Rnldef
  pub says : IsRnldef behind rnldef
  pub names : has_bad_name rnldef ≡ false
  pub makes : entry_of rnldef ≡ entry

-- A text ends with a closing parenthesis.
abbrev pub ends_closed : List ℕ → Bool
ends_closed [] = false
ends_closed (b ∷ []) = b == 41
ends_closed (b ∷ c ∷ bs) = ends_closed (c ∷ bs)

-- So many bytes of a text end with a closing parenthesis, and make this entry.
abbrev pub IsFront : List ℕ → RnlEntry → ℕ → Type 0
IsFront text entry n = (n ≤ length text) × (ends_closed (take n text) ≡ true) × MakesEntry (take n text) entry

-- A text makes this entry, and its statement uses so many bytes: the fewest that end with a closing
-- parenthesis and make the same entry. The parenthesis is that of the last operand.
pub record SpellsEntry (text : List ℕ) (entry : RnlEntry) (used : ℕ) : Type 0 where
  pub makes : MakesEntry text entry
  pub front : IsFront text entry used
  pub fewest : (n : ℕ) → n < used → IsFront text entry n → ⊥

-- ---- which fault a text has

-- The first word of tokens, if there is one, isn't RNLDEF. A comment that is not closed has no first word, and
-- is wrong for itself.
abbrev pub BeginsOtherwise : List Token → Type 0
BeginsOtherwise (Word w ∷ ts) = is_rnldef_word w ≡ false
BeginsOtherwise (Unclosed ∷ ts) = ⊥
BeginsOtherwise _ = Unit {0}

-- The first word of a statement isn't RNLDEF: something stands directly behind it, or it is another one.
abbrev pub NoWord : TokenLine → Type 0
NoWord s = (s.joined ≡ true) ⊎ BeginsOtherwise s.tokens

-- The tokens are the word RNLDEF, and what spells this.
abbrev pub IsStatement : List Token → Rnldef → Type 0
IsStatement ts d = (behind : List Token) × (ts ≡ Word (codes "RNLDEF") ∷ behind) × IsRnldef behind d

-- The first statement has a fault of this kind here. A text without a statement has the first kind on line 1.
abbrev pub IsWrong : Kind → ℕ → Option TokenLine → Type 0
IsWrong UnknownStatement at None = at ≡ 1
IsWrong UnknownStatement at (Some s) = (at ≡ s.at) × NoWord s
IsWrong BadOperand at (Some s) = (at ≡ s.at) × (NoWord s → ⊥) × ((d : Rnldef) → IsStatement s.tokens d → ⊥)
IsWrong NameLength at (Some s) =
    (at ≡ s.at) × (s.joined ≡ false) × ((d : Rnldef) × IsStatement s.tokens d × (has_bad_name d ≡ true))
IsWrong _ at s = ⊥

-- A text has this fault in its first statement.
pub record IsFault (text : List ℕ) (f : DeckFault) : Type 0 where
  pub lines : List TokenLine
  pub spelled : SpellsLines (readable text) lines
  pub wrong : IsWrong f.kind f.line (first_statement lines)

-- What is answered of a text: the entry and the bytes used that it spells, or its fault. Want of memory is the
-- only other answer.
abbrev pub Answers : Result (RnlEntry × ℕ) ReadError → List ℕ → Type 0
Answers (Ok x) text = SpellsEntry text x.0 x.1
Answers (Err read_errors.NoMemory) text = Unit {0}
Answers (Err (read_errors.Fault f)) text = IsFault text f

-- ---- as the reader finds them

-- How many operands the RNLDEF of an entry has.
abbrev pub operand_count : RnlEntry → ℕ
operand_count e = if is_none e.r then 3 else 4

-- An entry with the bytes used was found, or the fault, unless memory ran out.
abbrev pub Found : Result (RnlEntry × ℕ) ReadError → List ℕ → Type 0
Found (Ok x) text = (reading text ≡ Ok x.0) × SpellsEntry text x.0 x.1
Found (Err e) text = Fails e (reading text)
