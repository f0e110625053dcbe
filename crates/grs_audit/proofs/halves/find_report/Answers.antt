use Rattle.std.proofs.Common.{◌<◌, ℕ, List, length, ap, sym, subst, ◌∙◌, arith}
use Rattle.std.specs.Str.{bytes_eq}
use Rattle.grs_audit.specs.Halves.{report_word}
use Rattle.grs_audit.proofs.HalvesLaws.{before-none, before-more, found-none, found-word, lines-small}
use Rattle.grs_audit.proofs.HeadLaws.{behind-shorter}
use Rattle.grs_audit.proofs.PartLaws.{some-from, none-from}
use Rattle.grs_audit.proofs.halves.find_report.Goals as goal

pub lines-init : goal.lines-init
lines-init c = before-none c.args.text.now

pub overflow_add-lines : goal.overflow_add-lines
overflow_add-lines c =
    let small = lines-small c.args.text.now c.lines.rest.now c.lines.lines c.lines.invariant c.requires in
    omega (arith, small)

pub lines-smaller : goal.lines-smaller
lines-smaller c =
    subst (λ (xs : List ℕ). length xs < length c.lines.rest.now) (sym c.cut.ensures.behind)
    (behind-shorter 10 c.lines.rest.now
    (some-from (length c.lines.rest.now) c.is_empty.result c.is_empty.ensures c.lines-test.true))

pub lines-preserved : goal.lines-preserved
lines-preserved c =
    rw c.cut.ensures.behind
    (before-more c.args.text.now c.lines.rest.now c.lines.lines c.lines.invariant
    (some-from (length c.lines.rest.now) c.is_empty.result c.is_empty.ensures c.lines-test.true)
    (ap (λ l. bytes_eq l report_word) (sym c.cut.ensures.front) ∙ sym c.eq.ensures ∙ c.if-eq.false))

pub returns-then-eq : goal.returns-then-eq
returns-then-eq c =
    found-word c.args.text.now c.lines.rest.now c.lines.lines c.lines.invariant
    (ap (λ l. bytes_eq l report_word) (sym c.cut.ensures.front) ∙ sym c.eq.ensures ∙ c.if-eq.true)

pub returns : goal.returns
returns c =
    found-none c.args.text.now c.lines.rest.now c.lines.lines c.lines.invariant
    (none-from (length c.lines.rest.now) c.is_empty.result c.is_empty.ensures c.lines-test.false)
