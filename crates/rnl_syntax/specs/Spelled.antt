-- How tokens spell the operands of an RNLDEF.
use Rattle.std.specs.Prelude.{◌≡◌, ℕ, false, ◌&&◌, List, [], ◌∷◌, codes, Some, None, is_none, Result, Ok, Err}
use Rattle.std.specs.List.{flat_map}
use Rattle.grs_base.specs.declared.rnl.Which.{Which}
use Rattle.grs_base.specs.declared.rnl.Which.TheVariants.{Incl, Excl, Con}
use Rattle.grs_base.specs.declared.rnl.Form.{Form}
use Rattle.grs_base.specs.declared.rnl.Form.TheVariants.{Specific, Generic, Pattern}
use Rattle.grs_base.specs.NameLists.{is_specific}
use Rattle.deck_scan.specs.declared.token.Token.{Token}
use Rattle.deck_scan.specs.declared.token.Token.TheVariants.{Word, Open, Close}
use Rattle.deck_scan.specs.declared.miss.Miss.{Miss}
use Rattle.deck_scan.specs.Next.{Names, Sets}
use Rattle.rnl_syntax.specs.declared.operands.Operands.{Operands}
use Rattle.rnl_syntax.specs.declared.operands.Rnldef.{Rnldef}
use Rattle.rnl_syntax.specs.Operands.{no_operands}

abbrev pub which_word : Which → List ℕ
which_word Incl = codes "INCL"
which_word Excl = codes "EXCL"
which_word Con = codes "CON"

abbrev pub form_word : Form → List ℕ
form_word Specific = codes "SPECIFIC"
form_word Generic = codes "GENERIC"
form_word Pattern = codes "PATTERN"

-- An operand: RNL; TYPE; QNAME and RNAME with the tokens and the bytes that these name.
pub data Operand : Type 0 where
  WithRnl : Which → Operand
  WithType : Form → Operand
  WithQname : Token → List ℕ → Operand
  WithRname : Token → List ℕ → Operand

abbrev pub enclosed : List ℕ → Token → List Token
enclosed word value = Word word ∷ Open ∷ value ∷ Close ∷ []

abbrev pub operand : Operand → List Token
operand (WithRnl which) = enclosed (codes "RNL") (Word (which_word which))
operand (WithType form) = enclosed (codes "TYPE") (Word (form_word form))
operand (WithQname t q) = enclosed (codes "QNAME") t
operand (WithRname t r) = enclosed (codes "RNAME") t

-- None of its kind stands yet, and its token names its bytes.
abbrev pub IsFree : Operand → Operands → Type 0
IsFree (WithRnl which) o = o.which ≡ None
IsFree (WithType form) o = o.form ≡ None
IsFree (WithQname t q) o = (o.q ≡ None) × Names t q
IsFree (WithRname t r) o = (o.r ≡ None) × Names t r

abbrev pub set : Operand → Operands → Operands
set (WithRnl which) o = record o { which = Some which }
set (WithType form) o = record o { form = Some form }
set (WithQname t q) o = record o { q = Some q }
set (WithRname t r) o = record o { r = Some r }

-- The tokens behind the word RNLDEF: operands in any order, each at most once; RNL, TYPE and QNAME stand,
-- and RNAME where the entry is SPECIFIC.
pub record IsRnldef (ts : List Token) (d : Rnldef) : Type 0 where
  pub given : List Operand
  pub spelled : ts ≡ flat_map operand given
  pub operands :
      Sets IsFree set no_operands given (record { which = Some d.which; form = Some d.form; q = Some d.q; r = d.r })
  pub needed : (is_specific d.form && is_none d.r) ≡ false

-- What is answered of the tokens behind the word RNLDEF: what they spell, or that they spell nothing.
abbrev pub Answers : Result Rnldef Miss → List Token → Type 0
Answers (Ok d) ts = IsRnldef ts d
Answers (Err e) ts = (d : Rnldef) → IsRnldef ts d → ⊥
