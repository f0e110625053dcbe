-- What is spelled so is read as an RNLDEF.
use Rattle.std.proofs.Common.{◌≡◌, ℕ, suc, ◌+◌, false, eqb, List, ◌∷◌, ◌++◌, length, Some, refl, arith, lit≤}
use Rattle.std.specs.List.{flat_map}
use Rattle.std.proofs.lemmas.Bool.{ne_eqb}
use Rattle.grs_base.specs.declared.rnl.Which.TheVariants.{Incl, Excl, Con}
use Rattle.grs_base.specs.declared.rnl.Form.TheVariants.{Specific, Generic, Pattern}
use Rattle.deck_scan.specs.declared.token.Token.{Token}
use Rattle.deck_scan.specs.declared.token.Token.TheVariants.{Close}
use Rattle.deck_scan.specs.Next.{up_to, Sets}
use Rattle.deck_scan.proofs.Again.{name_again, is_free, all_again}
use Rattle.rnl_syntax.specs.declared.operands.Operands.{Operands}
use Rattle.rnl_syntax.specs.declared.operands.Rnldef.{Rnldef}
use Rattle.rnl_syntax.specs.Operands.{no_operands, which_of, form_of, value_of, operand_at, whole, rnldef_at}
use Rattle.rnl_syntax.specs.Spelled.{Operand, WithRnl, WithType, WithQname, WithRname, operand, IsFree, set, IsRnldef}

operand_again : (x : Operand) (o : Operands) (rest : List Token) → IsFree x o
    → operand_at o (operand x ++ rest) ≡ Some (set x o, rest)
unfolding operand_at value_of which_of form_of
operand_again (WithRnl Incl) o rest h = rw h refl
operand_again (WithRnl Excl) o rest h = rw h refl
operand_again (WithRnl Con) o rest h = rw h refl
operand_again (WithType Specific) o rest h = rw h refl
operand_again (WithType Generic) o rest h = rw h refl
operand_again (WithType Pattern) o rest h = rw h refl
operand_again (WithQname t q) o rest h = rw (name_again t q (Close ∷ rest) h.1, h.0) refl
operand_again (WithRname t r) o rest h = rw (name_again t r (Close ∷ rest) h.1, h.0) refl

long : (x : Operand) (rest : List Token) → eqb (length (operand x ++ rest)) 0 ≡ false
long (WithRnl which) rest = ne_eqb _ 0 (λ e. omega (arith, e))
long (WithType form) rest = ne_eqb _ 0 (λ e. omega (arith, e))
long (WithQname t q) rest = ne_eqb _ 0 (λ e. omega (arith, e))
long (WithRname t r) rest = ne_eqb _ 0 (λ e. omega (arith, e))

-- how many kinds of operands are free
free_kinds : Operands → ℕ
free_kinds o = is_free o.which + is_free o.form + is_free o.q + is_free o.r

fewer : (x : Operand) (o : Operands) → IsFree x o → free_kinds o ≡ suc (free_kinds (set x o))
unfolding free_kinds
fewer (WithRnl which) o h = rw h (omega arith)
fewer (WithType form) o h = rw h (omega arith)
fewer (WithQname t q) o h = rw h.0 (omega arith)
fewer (WithRname t r) o h = rw h.0 (omega arith)

operands_again : (given : List Operand) (o : Operands) → Sets IsFree set no_operands given o
    → up_to 4 operand_at no_operands (flat_map operand given) ≡ Some o
unfolding free_kinds
operands_again given o h =
    all_again IsFree set operand operand_at free_kinds long operand_again fewer 4 given no_operands o (lit≤ tt) h

pub rnldef_again : (ts : List Token) (d : Rnldef) → IsRnldef ts d → rnldef_at ts ≡ Some d
unfolding rnldef_at whole
rnldef_again ts d h =
    rw (
      h.spelled,
      operands_again h.given (record { which = Some d.which; form = Some d.form; q = Some d.q; r = d.r }) h.operands,
      h.needed,
    )
    refl
