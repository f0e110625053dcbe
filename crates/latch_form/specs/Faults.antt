-- The first fault of a text of calls, and what is answered of a text.
use Rattle.std.specs.Prelude.{◌≡◌, ℕ, true, false, ◌≤◌, ◌⊎◌, List, ◌∷◌, ◌++◌, Some, None, Result, Ok, Err}
use Rattle.grs_base.specs.Faults.{number}
use Rattle.grs_base.specs.declared.fault.DeckFault.{DeckFault}
use Rattle.grs_base.specs.declared.fault.Kind.{Kind}
use Rattle.grs_base.specs.declared.fault.Kind.TheVariants.{UnknownStatement, BadOperand, NameLength, TooMany}
use Rattle.grs_base.specs.declared.fault.ReadError.{ReadError}
use Rattle.grs_base.specs.declared.fault.ReadError.TheVariants as read_errors
use Rattle.deck_scan.specs.declared.token.Token.{Token}
use Rattle.deck_scan.specs.declared.token.Token.TheVariants.{Word, Unclosed}
use Rattle.deck_scan.specs.declared.token.TokenLine.{TokenLine}
use Rattle.deck_scan.specs.Pieces.{SpellsLines}
use Rattle.deck_scan.specs.Reading.{byte_fault}
use Rattle.grs_latch.specs.declared.call.LatchCall.{LatchCall}
use Rattle.latch_form.specs.declared.form.Ask.{Ask}
use Rattle.latch_form.specs.declared.form.GivenCall.{GivenCall}
use Rattle.latch_form.specs.declared.judge.Draft.{Draft}
use Rattle.latch_form.specs.Drafts.{no_draft}
use Rattle.latch_form.specs.Spelled.{ask_word, Spells, IsSized, HasRoom, Says, SpellsCalls}

-- The line begins with none of the words of calls. A comment that is not closed has no first word, and is wrong for
-- itself.
abbrev pub BeginsOtherwise : List Token → Type 0
BeginsOtherwise (Word w ∷ ts) = (a : Ask) → w ≡ ask_word a → ⊥
BeginsOtherwise (Unclosed ∷ ts) = ⊥
BeginsOtherwise _ = Unit {0}

-- Its first word is no word of a call, or a token other than an opening parenthesis stands directly behind it.
abbrev pub NoWord : TokenLine → Type 0
NoWord l = (l.joined ≡ true) ⊎ BeginsOtherwise l.tokens

-- The line spells a call of which this isn't so.
abbrev pub SomeCall : TokenLine → (GivenCall → Type 0) → Type 0
SomeCall l P = (c : GivenCall) × Spells l c × (P c → ⊥)

-- Which kinds apply to a line behind those that made this draft.
abbrev pub Applies : Kind → Draft → TokenLine → Type 0
Applies UnknownStatement d l = NoWord l
Applies BadOperand d l = (NoWord l → ⊥) × ((c : GivenCall) → Spells l c → ⊥)
Applies NameLength d l = SomeCall l IsSized
Applies TooMany d l = SomeCall l (HasRoom d)
Applies _ d l = ⊥

-- The least kind that applies.
pub record IsLeast (k : Kind) (d : Draft) (l : TokenLine) : Type 0 where
  pub applies : Applies k d l
  pub least : (j : Kind) → Applies j d l → number k ≤ number j

-- The first faulty line, with the least kind that applies to it: the lines before it are all right.
pub record FaultyLine (ls : List TokenLine) (start : Draft) (f : DeckFault) : Type 0 where
  pub front : List TokenLine
  pub line : TokenLine
  pub back : List TokenLine
  pub before : Draft
  pub parts : ls ≡ front ++ line ∷ back
  pub says : Says start front before
  pub at : f.line ≡ line.at
  pub least : IsLeast f.kind before line

-- The fault of the lines that a text spells.
pub record FaultOfLines (text : List ℕ) (f : DeckFault) : Type 0 where
  pub allowed : byte_fault text ≡ None
  pub lines : List TokenLine
  pub spelled : SpellsLines text lines
  pub fault : FaultyLine lines no_draft f

-- The fault of length or bytes comes before that of lines.
abbrev pub IsFault : List ℕ → DeckFault → Type 0
IsFault text f = (byte_fault text ≡ Some f) ⊎ FaultOfLines text f

-- No fault is the first of a text.
abbrev pub IsFaultless : List ℕ → Type 0
IsFaultless text = (f : DeckFault) → IsFault text f → ⊥

-- What is answered of a text: the calls that it spells, where it has no fault, else its first fault. Want of memory is
-- the only other answer.
abbrev pub Answers : Result (List LatchCall) ReadError → List ℕ → Type 0
Answers (Ok calls) text = SpellsCalls text calls × IsFaultless text
Answers (Err read_errors.NoMemory) text = Unit {0}
Answers (Err (read_errors.Fault f)) text = IsFault text f
