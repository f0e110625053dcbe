use Rattle.std.proofs.Common.{◌<◌, ℕ, List, length, sym, subst, arith}
use Rattle.grs_audit.specs.Lines.{lines_in}
use Rattle.grs_audit.proofs.HeadLaws.{behind-shorter, counted-more, counted-some, counted-all}
use Rattle.grs_audit.proofs.PartLaws.{some-from, none-from}
use Rattle.grs_audit.proofs.parts.line_count.Goals as goal

pub overflow_add-lines : goal.overflow_add-lines
overflow_add-lines c =
    let less =
    counted-some c.lines.rest.now c.lines.lines (length (lines_in c.args.text.now))
    (some-from (length c.lines.rest.now) c.is_empty.result c.is_empty.ensures c.lines-test.true) c.lines.invariant in
    let few = c.requires in
    omega (arith, less, few)

pub lines-smaller : goal.lines-smaller
lines-smaller c =
    subst (λ (xs : List ℕ). length xs < length c.lines.rest.now) (sym c.cut.ensures.behind)
    (behind-shorter 10 c.lines.rest.now
    (some-from (length c.lines.rest.now) c.is_empty.result c.is_empty.ensures c.lines-test.true))

pub lines-preserved : goal.lines-preserved
lines-preserved c =
    rw c.cut.ensures.behind
    (counted-more c.lines.rest.now c.lines.lines (length (lines_in c.args.text.now))
    (some-from (length c.lines.rest.now) c.is_empty.result c.is_empty.ensures c.lines-test.true) c.lines.invariant)

pub returns : goal.returns
returns c =
    counted-all c.lines.rest.now c.lines.lines (length (lines_in c.args.text.now))
    (none-from (length c.lines.rest.now) c.is_empty.result c.is_empty.ensures c.lines-test.false) c.lines.invariant
