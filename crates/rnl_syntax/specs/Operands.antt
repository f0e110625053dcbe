-- The operands of RNLDEF, in any order, each at most once.
use Rattle.std.specs.Prelude.{ℕ, Bool, not, ◌&&◌, ◌||◌, List, codes, Option, Some, None, is_none, if◌then◌else◌}
use Rattle.std.specs.Str.{bytes_eq}
use Rattle.grs_base.specs.Names.{trim_blanks, is_qname}
use Rattle.grs_base.specs.declared.rnl.Which.{Which}
use Rattle.grs_base.specs.declared.rnl.Which.TheVariants.{Incl, Excl, Con}
use Rattle.grs_base.specs.declared.rnl.Form.{Form}
use Rattle.grs_base.specs.declared.rnl.Form.TheVariants.{Specific, Generic, Pattern}
use Rattle.grs_base.specs.declared.rnl.RnlEntry.{RnlEntry}
use Rattle.grs_base.specs.NameLists.{is_specific}
use Rattle.deck_scan.specs.declared.token.Token.{Token}
use Rattle.deck_scan.specs.Next.{◌>>=◌, open_at, close_at, any_word_at, name_at, up_to, once}
use Rattle.deck_scan.specs.Lengths.{is_bad_rname}
use Rattle.rnl_syntax.specs.declared.operands.Operands.{Operands}
use Rattle.rnl_syntax.specs.declared.operands.Rnldef.{Rnldef}

abbrev pub no_operands : Operands
no_operands = record { which = None; form = None; q = None; r = None }

unfoldable pub which_of : List ℕ → Option Which
which_of w =
    if bytes_eq w (codes "INCL") then Some Incl
    else if bytes_eq w (codes "EXCL") then Some Excl
    else if bytes_eq w (codes "CON") then Some Con
    else None

unfoldable pub form_of : List ℕ → Option Form
form_of w =
    if bytes_eq w (codes "SPECIFIC") then Some Specific
    else if bytes_eq w (codes "GENERIC") then Some Generic
    else if bytes_eq w (codes "PATTERN") then Some Pattern
    else None

-- RNL stands once.
abbrev pub with_which : Operands → Which → Option Operands
with_which o which = once o.which (record o { which = Some which })

-- TYPE stands once.
abbrev pub with_form : Operands → Form → Option Operands
with_form o form = once o.form (record o { form = Some form })

-- QNAME stands once.
abbrev pub with_q : Operands → List ℕ → Option Operands
with_q o q = once o.q (record o { q = Some q })

-- RNAME stands once.
abbrev pub with_r : Operands → List ℕ → Option Operands
with_r o r = once o.r (record o { r = Some r })

-- The value of the operand of this word.
unfoldable pub value_of : Operands → List ℕ → List Token → Option (Operands × List Token)
value_of o w ts =
    if bytes_eq w (codes "RNL")
    then (any_word_at ts >>= λ v. which_of v.0 >>= λ x. with_which o x >>= λ p. Some (p, v.1))
    else if bytes_eq w (codes "TYPE")
    then (any_word_at ts >>= λ v. form_of v.0 >>= λ x. with_form o x >>= λ p. Some (p, v.1))
    else if bytes_eq w (codes "QNAME") then (name_at ts >>= λ v. with_q o v.0 >>= λ p. Some (p, v.1))
    else if bytes_eq w (codes "RNAME") then (name_at ts >>= λ v. with_r o v.0 >>= λ p. Some (p, v.1))
    else None

-- A word, and its value between parentheses.
unfoldable pub operand_at : Operands → List Token → Option (Operands × List Token)
operand_at o ts = do
  w ← any_word_at ts
  a ← open_at w.1
  p ← value_of o w.0 a
  b ← close_at p.1
  Some (p.0, b)

-- RNL, TYPE and QNAME stand; RNAME stands where the entry is SPECIFIC.
unfoldable pub whole : Operands → Option Rnldef
whole o = do
  which ← o.which
  form ← o.form
  q ← o.q
  if is_specific form && is_none o.r then None else Some (record { which = which; form = form; q = q; r = o.r })

-- What stands behind the word RNLDEF.
unfoldable pub rnldef_at : List Token → Option Rnldef
rnldef_at ts = up_to 4 operand_at no_operands ts >>= λ o. whole o

-- Names of wrong lengths.
abbrev pub has_bad_name : Rnldef → Bool
has_bad_name d = not (is_qname d.q) || is_bad_rname d.r

-- The entry that a statement makes; a qname loses its trailing blanks.
abbrev pub entry_of : Rnldef → RnlEntry
entry_of d = record { which = d.which; form = d.form; q = trim_blanks d.q; r = d.r }
