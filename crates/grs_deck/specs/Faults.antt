-- The first fault of a text, by the table of kinds, and what is answered of a text.
use Rattle.std.specs.Prelude.{◌≡◌, ℕ, false, ◌≤◌, ◌⊎◌, List, ◌∷◌, ◌++◌, length, Some, None, Result, Ok, Err}
use Rattle.grs_base.specs.Faults.{number}
use Rattle.grs_base.specs.declared.fault.DeckFault.{DeckFault}
use Rattle.grs_base.specs.declared.fault.Kind.{Kind}
use Rattle.grs_base.specs.declared.fault.Kind.TheVariants.{UnknownStatement, BadOperand, NameLength, Repeated}
use Rattle.grs_base.specs.declared.fault.Kind.TheVariants.{OutOfPlace, TooMany, UnknownName, NoSystem}
use Rattle.grs_base.specs.declared.fault.ReadError.{ReadError}
use Rattle.grs_base.specs.declared.fault.ReadError.TheVariants as read_errors
use Rattle.grs_wire.specs.declared.deck.Deck.{Deck}
use Rattle.deck_scan.specs.declared.token.TokenLine.{TokenLine}
use Rattle.deck_scan.specs.Pieces.{SpellsLines}
use Rattle.deck_scan.specs.Reading.{byte_fault}
use Rattle.deck_form.specs.declared.form.Stmt.{Stmt}
use Rattle.deck_form.specs.Spelled.{Spells, IsNoStatement}
use Rattle.deck_form.specs.Statements.{statements}
use Rattle.grs_deck.specs.declared.judge.Draft.{Draft}
use Rattle.grs_deck.specs.Reading.{first_draft}
use Rattle.grs_deck.specs.Spells.{IsSized, IsNew, IsPlaced, HasRoom, IsKnown, Says, SpellsDeck}

-- The line spells a statement of which this isn't so.
abbrev pub SomeStmt : Draft → TokenLine → (Stmt → Type 0) → Type 0
SomeStmt d l P = (st : Stmt) × Spells d.scheduled d.deck.entries l st × (P st → ⊥)

-- Which kinds apply to a line behind the lines that made this deck.
abbrev pub Applies : Kind → Draft → TokenLine → Type 0
Applies UnknownStatement d l = IsNoStatement UnknownStatement d.scheduled d.deck.entries l
Applies BadOperand d l = IsNoStatement BadOperand d.scheduled d.deck.entries l
Applies NameLength d l = SomeStmt d l IsSized
Applies Repeated d l = SomeStmt d l (IsNew d)
Applies OutOfPlace d l = SomeStmt d l (IsPlaced d)
Applies TooMany d l = SomeStmt d l (HasRoom d)
Applies UnknownName d l = SomeStmt d l (IsKnown d)
Applies _ d l = ⊥

-- The least kind that applies.
pub record IsLeast (k : Kind) (d : Draft) (l : TokenLine) : Type 0 where
  pub applies : Applies k d l
  pub least : (j : Kind) → Applies j d l → number k ≤ number j

-- The first faulty line, with the least kind that applies to it: the lines before it are all right.
pub record FaultyLine (ls : List TokenLine) (start : Draft) (f : DeckFault) : Type 0 where
  pub front : List TokenLine
  pub line : TokenLine
  pub back : List TokenLine
  pub before : Draft
  pub parts : ls ≡ front ++ line ∷ back
  pub says : Says start front before
  pub at : f.line ≡ line.at
  pub least : IsLeast f.kind before line

-- All lines are right, and there is no system.
pub record NoSystemSaid (ls : List TokenLine) (start : Draft) (f : DeckFault) : Type 0 where
  pub draft : Draft
  pub says : Says start ls draft
  pub none : length draft.deck.systems ≡ 0
  pub is : f ≡ record { line = 0; kind = NoSystem }

-- The fault of the statements of the lines that a text spells.
pub record FaultOfLines (text : List ℕ) (f : DeckFault) : Type 0 where
  pub allowed : byte_fault text ≡ None
  pub lines : List TokenLine
  pub spelled : SpellsLines text lines
  pub fault :
      FaultyLine (statements lines) (first_draft lines) f ⊎ NoSystemSaid (statements lines) (first_draft lines) f

-- The fault of length or bytes comes before that of lines.
abbrev pub IsFault : List ℕ → DeckFault → Type 0
IsFault text f = (byte_fault text ≡ Some f) ⊎ FaultOfLines text f

-- No fault is the first of a text.
abbrev pub IsFaultless : List ℕ → Type 0
IsFaultless text = (f : DeckFault) → IsFault text f → ⊥

-- What is answered of a text: the deck that it spells, where it has no fault, else its first fault. Want of
-- memory is the only other answer.
abbrev pub Answers : Result Deck ReadError → List ℕ → Type 0
Answers (Ok d) text = SpellsDeck text d × IsFaultless text
Answers (Err read_errors.NoMemory) text = Unit {0}
Answers (Err (read_errors.Fault f)) text = IsFault text f
