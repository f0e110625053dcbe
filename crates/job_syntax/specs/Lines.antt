-- The line that a task line makes, where its names have the right lengths.
use Rattle.std.specs.Prelude.{ℕ, Bool, true, false, not, ◌&&◌, ◌||◌, List, [], ◌∷◌, Option, Some, None, is_none}
use Rattle.std.specs.Prelude.{unwrap_or, if◌then◌else◌}
use Rattle.grs_base.specs.Names.{trim_blanks, is_qname, is_rname}
use Rattle.grs_base.specs.declared.resource.Ret.{Ret}
use Rattle.grs_base.specs.declared.resource.Ret.TheVariants.{RetNone, RetHave}
use Rattle.grs_base.specs.declared.look.Filter.{Filter}
use Rattle.grs_base.specs.declared.look.Filter.TheVariants as filters
use Rattle.grs_base.specs.declared.line.Line.{Line}
use Rattle.grs_base.specs.declared.line.Line.TheVariants as lines
use Rattle.deck_scan.specs.Lengths.{is_bad_qname, is_bad_rname, trimmed}
use Rattle.job_syntax.specs.declared.ask.ResAsk.{ResAsk}
use Rattle.job_syntax.specs.declared.ask.EnqAsk.{EnqAsk}
use Rattle.job_syntax.specs.declared.display.Wanted.{Wanted}
use Rattle.job_syntax.specs.declared.display.Shown.{Shown}
use Rattle.job_syntax.specs.declared.display.Shown.TheVariants as shown
use Rattle.job_syntax.specs.declared.line_ask.LineAsk.{LineAsk}
use Rattle.job_syntax.specs.declared.line_ask.LineAsk.TheVariants as asks

-- Names of wrong lengths.
abbrev pub are_bad_names : List ℕ → List ℕ → Bool
are_bad_names q r = not (is_qname q) || not (is_rname r)

abbrev pub is_bad_shown : Shown → Bool
is_bad_shown shown.Contended = false
is_bad_shown (shown.Resource q r) = are_bad_names q r

abbrev pub has_bad_name : LineAsk → Bool
has_bad_name (asks.Enq e) = are_bad_names e.ask.q e.ask.r
has_bad_name (asks.Reserve e) = are_bad_names e.ask.q e.ask.r
has_bad_name (asks.Deq a) = are_bad_names a.q a.r
has_bad_name (asks.Wait a) = are_bad_names a.q a.r
has_bad_name (asks.Gqscan s) = is_bad_qname s.names.q || is_bad_rname s.names.r
has_bad_name (asks.Display s) = is_bad_shown s

-- Without RET an ENQ is unconditional.
abbrev pub ret_or_none : Option Ret → Ret
ret_or_none None = RetNone
ret_or_none (Some r) = r

-- Without RNL the name lists are looked at.
abbrev pub rnl_or_yes : Option Bool → Bool
rnl_or_yes None = true
rnl_or_yes (Some b) = b

abbrev pub is_have : Option Ret → Bool
is_have (Some RetHave) = true
is_have _ = false

-- Without names every list is shown.
abbrev pub filter_of : Wanted → Filter
filter_of n = if is_none n.q && is_none n.r then filters.All else filters.Named (trimmed n.q) n.r

abbrev pub enq_line : EnqAsk → Line
enq_line e =
    lines.Enq (record { q = trim_blanks e.ask.q; r = e.ask.r; ctl = e.ctl; scope = e.ask.scope } ∷ [])
    (ret_or_none e.ask.opts.ret) (rnl_or_yes e.ask.opts.rnl)

abbrev pub reserve_line : EnqAsk → Line
reserve_line e =
    lines.Reserve (trim_blanks e.ask.q) e.ask.r e.ctl (unwrap_or e.ask.opts.unit 0) (ret_or_none e.ask.opts.ret)
    (rnl_or_yes e.ask.opts.rnl)

abbrev pub deq_line : ResAsk → Line
deq_line a = lines.Deq (trim_blanks a.q) a.r a.scope (is_have a.opts.ret) a.opts.unit (rnl_or_yes a.opts.rnl)

abbrev pub wait_line : ResAsk → Line
wait_line a = lines.Wait (trim_blanks a.q) a.r a.scope (rnl_or_yes a.opts.rnl)

abbrev pub display_line : Shown → Line
display_line shown.Contended = lines.DisplayC
display_line (shown.Resource q r) = lines.DisplayRes (trim_blanks q) r

-- The line that a task line makes.
abbrev pub line_of : LineAsk → Line
line_of (asks.Enq e) = enq_line e
line_of (asks.Reserve e) = reserve_line e
line_of (asks.Deq a) = deq_line a
line_of (asks.Wait a) = wait_line a
line_of (asks.Gqscan s) = lines.Gqscan s.global (filter_of s.names)
line_of (asks.Display s) = display_line s
