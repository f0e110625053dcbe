-- The options of a task line, in any order, each at most once.
use Rattle.std.specs.Prelude.{ℕ, Bool, true, false, List, codes, Option, Some, None, if◌then◌else◌}
use Rattle.std.specs.Str.{bytes_eq}
use Rattle.grs_base.specs.declared.resource.Ret.{Ret}
use Rattle.grs_base.specs.declared.resource.Ret.TheVariants.{RetNone, RetUse, RetHave, RetTest, RetChng, RetEcb}
use Rattle.deck_scan.specs.declared.token.Token.{Token}
use Rattle.job_syntax.specs.declared.options.Opts.{Opts}
use Rattle.deck_scan.specs.Next.{◌>>=◌, comma_at, any_word_at, value_at, up_to, once}
use Rattle.job_syntax.specs.Unit.{unit_of}

abbrev pub no_opts : Opts
no_opts = record { ret = None; rnl = None; unit = None }

unfoldable pub ret_of : List ℕ → Option Ret
ret_of w =
    if bytes_eq w (codes "NONE") then Some RetNone
    else if bytes_eq w (codes "USE") then Some RetUse
    else if bytes_eq w (codes "HAVE") then Some RetHave
    else if bytes_eq w (codes "TEST") then Some RetTest
    else if bytes_eq w (codes "CHNG") then Some RetChng
    else None

unfoldable pub rnl_of : List ℕ → Option Bool
rnl_of w = if bytes_eq w (codes "YES") then Some true else if bytes_eq w (codes "NO") then Some false else None

-- RET or ECB stands once.
abbrev pub with_ret : Opts → Ret → Option Opts
with_ret o ret = once o.ret (record o { ret = Some ret })

-- RNL stands once.
abbrev pub with_rnl : Opts → Bool → Option Opts
with_rnl o rnl = once o.rnl (record o { rnl = Some rnl })

-- UCB stands once.
abbrev pub with_unit : Opts → ℕ → Option Opts
with_unit o unit = once o.unit (record o { unit = Some unit })

-- What stands behind the first word of an option.
unfoldable pub chosen : Opts → List ℕ → List Token → Option (Opts × List Token)
chosen o w ts =
    if bytes_eq w (codes "ECB") then (with_ret o RetEcb >>= λ p. Some (p, ts))
    else if bytes_eq w (codes "RET") then (value_at ts >>= λ v. ret_of v.0 >>= λ x. with_ret o x >>= λ p. Some (p, v.1))
    else if bytes_eq w (codes "RNL") then (value_at ts >>= λ v. rnl_of v.0 >>= λ x. with_rnl o x >>= λ p. Some (p, v.1))
    else if bytes_eq w (codes "UCB")
    then (value_at ts >>= λ v. unit_of v.0 >>= λ x. with_unit o x >>= λ p. Some (p, v.1))
    else None

unfoldable pub option_at : Opts → List Token → Option (Opts × List Token)
option_at o ts = do
  a ← comma_at ts
  w ← any_word_at a
  chosen o w.0 w.1

unfoldable pub options_at : List Token → Option Opts
options_at ts = up_to 3 option_at no_opts ts
