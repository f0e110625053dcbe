-- What may follow the printed form of an entry so that it is read again, and which bytes are its statement alone.
use Rattle.std.specs.Prelude.{◌≡◌, ℕ, true, false, ◌⊎◌, List, [], ◌∷◌, ◌++◌, Some, take}
use Rattle.std.specs.List.{flat_map}
use Rattle.deck_scan.specs.declared.token.TokenLine.{TokenLine}
use Rattle.deck_scan.specs.AnyBytes.{readable}
use Rattle.deck_scan.specs.Pieces.{SpellsLines}
use Rattle.rnl_syntax.specs.Lines.{begins_operands}
use Rattle.rnl_syntax.specs.Reading.{first_statement, ends_closed}

-- LF, or CR and LF.
abbrev pub IsLineEnd : List ℕ → Type 0
IsLineEnd bytes = (bytes ≡ 10 ∷ []) ⊎ (bytes ≡ 13 ∷ 10 ∷ [])

-- The end of a line, and a text whose first token is none of RNL, TYPE, QNAME and RNAME.
pub record IsNextLine (text : List ℕ) : Type 0 where
  pub bytes : List ℕ
  pub rest : List ℕ
  pub parts : text ≡ bytes ++ rest
  pub ends : IsLineEnd bytes
  pub lines : List TokenLine
  pub spelled : SpellsLines (readable rest) lines
  pub other : begins_operands lines ≡ false

-- What may follow a printed RNLDEF: nothing, or the next line.
abbrev pub MayFollow : List ℕ → Type 0
MayFollow text = (text ≡ []) ⊎ IsNextLine text

-- So many bytes of a text are its first statement alone: they end with a closing parenthesis, and the tokens
-- of their lines together are those of the statement.
pub record AreStatement (text : List ℕ) (used : ℕ) : Type 0 where
  pub closed : ends_closed (take used text) ≡ true
  pub all : List TokenLine
  pub statement : TokenLine
  pub first : SpellsLines (readable text) all × (first_statement all ≡ Some statement)
  pub own : List TokenLine
  pub spelled : SpellsLines (take used text) own
  pub tokens : flat_map (λ (l : TokenLine). l.tokens) own ≡ statement.tokens
