-- The statements of a deck, by the tokens of their lines.
use Rattle.std.specs.Prelude.{ℕ, Bool, true, false, List, ◌∷◌, codes, Option, Some, None, Result, Ok, Err}
use Rattle.std.specs.Prelude.{if◌then◌else◌}
use Rattle.std.specs.Str.{bytes_eq}
use Rattle.grs_base.specs.declared.fault.Kind.{Kind}
use Rattle.grs_base.specs.declared.fault.Kind.TheVariants.{UnknownStatement, BadOperand}
use Rattle.deck_scan.specs.declared.token.Token.{Token}
use Rattle.deck_scan.specs.declared.token.Token.TheVariants.{Word, Unclosed}
use Rattle.deck_scan.specs.declared.token.TokenLine.{TokenLine}
use Rattle.deck_form.specs.declared.form.Stmt.{Stmt}
use Rattle.deck_form.specs.declared.form.Stmt.TheVariants as stmts
use Rattle.deck_form.specs.declared.form.Key.{Key}
use Rattle.deck_form.specs.declared.form.Key.TheVariants as keys
use Rattle.deck_scan.specs.Next.{◌>>=◌, end_at}
use Rattle.job_syntax.specs.declared.line_ask.LineWord.{LineWord}
use Rattle.job_syntax.specs.LineAsk.{line_word, line_ask_at}
use Rattle.rnl_syntax.specs.Lines.{is_rnldef_word}
use Rattle.rnl_syntax.specs.Operands.{rnldef_at}
use Rattle.deck_form.specs.Words.{named_at}
use Rattle.deck_form.specs.Complex.{complex_at}
use Rattle.deck_form.specs.Event.{event_at}
use Rattle.deck_form.specs.Command.{command_at}

abbrev pub line_key : Option LineWord → Key
line_key None = keys.Unknown
line_key (Some v) = keys.Line v

-- What the first word of a statement says.
unfoldable pub key : List ℕ → Key
key w =
    if bytes_eq w (codes "COMPLEX") then keys.Complex
    else if is_rnldef_word w then keys.Rnldef
    else if bytes_eq w (codes "SYSTEM") then keys.System
    else if bytes_eq w (codes "JOB") then keys.Job
    else if bytes_eq w (codes "TASK") then keys.Task
    else if bytes_eq w (codes "AT") then keys.At
    else if bytes_eq w (codes "SCHEDULE") then keys.Schedule
    else line_key (line_word w)

-- What stands behind the first word.
unfoldable pub plain_form : Key → List Token → Option Stmt
plain_form keys.Complex ts = complex_at ts >>= λ c. Some (stmts.Complex c)
plain_form keys.Rnldef ts = rnldef_at ts >>= λ d. Some (stmts.Rnldef d)
plain_form keys.System ts = named_at ts >>= λ n. Some (stmts.System n)
plain_form keys.Job ts = named_at ts >>= λ n. Some (stmts.Job n)
plain_form keys.Task ts = named_at ts >>= λ n. Some (stmts.Task n)
plain_form (keys.Line v) ts = line_ask_at v ts >>= λ x. Some (stmts.Line x)
plain_form keys.At ts = command_at ts >>= λ c. Some (stmts.Command c)
plain_form keys.Schedule ts = end_at ts >>= λ end. Some stmts.Schedule
plain_form keys.Unknown ts = None

abbrev pub or_bad : Option Stmt → Result Stmt Kind
or_bad (Some x) = Ok x
or_bad None = Err BadOperand

abbrev pub keyed : Key → List Token → Result Stmt Kind
keyed keys.Unknown ts = Err UnknownStatement
keyed keys.Complex ts = or_bad (plain_form keys.Complex ts)
keyed keys.Rnldef ts = or_bad (plain_form keys.Rnldef ts)
keyed keys.System ts = or_bad (plain_form keys.System ts)
keyed keys.Job ts = or_bad (plain_form keys.Job ts)
keyed keys.Task ts = or_bad (plain_form keys.Task ts)
keyed (keys.Line v) ts = or_bad (plain_form (keys.Line v) ts)
keyed keys.At ts = or_bad (plain_form keys.At ts)
keyed keys.Schedule ts = or_bad (plain_form keys.Schedule ts)

-- Before SCHEDULE. A word that something else stands directly behind is no statement word.
unfoldable pub first_form : Bool → List Token → Result Stmt Kind
first_form true ts = Err UnknownStatement
first_form false (Word w ∷ ts) = keyed (key w) ts
first_form false (Unclosed ∷ ts) = Err BadOperand
first_form false _ = Err UnknownStatement

unfoldable pub event_form : ℕ → List Token → Option Stmt
event_form entries ts = do
  e ← event_at entries ts
  Some (stmts.Event e.0 e.1)

-- Before SCHEDULE and behind it.
unfoldable pub form : Bool → ℕ → TokenLine → Result Stmt Kind
form false entries l = first_form l.joined l.tokens
form true entries l = or_bad (event_form entries l.tokens)
