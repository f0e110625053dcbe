use Rattle.std.proofs.Common.{◌<◌, ℕ, List, length, sym, subst}
use Rattle.grs_audit.specs.Lines.{front}
use Rattle.grs_audit.proofs.CompareLaws.{alike-end, alike-other, alike-more}
use Rattle.grs_audit.proofs.HeadLaws.{behind-shorter}
use Rattle.grs_audit.proofs.PartLaws.{some-from, none-from, same-from, other-from}
use Rattle.grs_audit.proofs.compare.compare_lines.Goals as goal

pub returns-then-is_empty : goal.returns-then-is_empty
returns-then-is_empty c =
    alike-end c.args.wanted.now c.args.text.now c.lines.left.now c.lines.rest.now c.lines.lines c.lines.invariant
    (some-from (length c.lines.left.now) c.is_empty.result c.is_empty.ensures c.lines-test.true)
    (none-from (length c.lines.rest.now) c.is_empty-in-lines.result c.is_empty-in-lines.ensures c.if-is_empty.true)

pub returns-then-ne : goal.returns-then-ne
returns-then-ne c =
    alike-other c.args.wanted.now c.args.text.now c.lines.left.now c.lines.rest.now c.lines.lines c.lines.invariant
    (some-from (length c.lines.left.now) c.is_empty.result c.is_empty.ensures c.lines-test.true)
    (some-from (length c.lines.rest.now) c.is_empty-in-lines.result c.is_empty-in-lines.ensures c.if-is_empty.false)
    (other-from c.cut.result.0.now c.cut-in-lines.result.0.now (front 10 c.lines.left.now) (front 10 c.lines.rest.now)
    c.ne.result c.cut.ensures.front c.cut-in-lines.ensures.front c.ne.ensures c.if-ne.true)

pub lines-smaller : goal.lines-smaller
lines-smaller c =
    subst (λ (xs : List ℕ). length xs < length c.lines.left.now) (sym c.cut.ensures.behind)
    (behind-shorter 10 c.lines.left.now
    (some-from (length c.lines.left.now) c.is_empty.result c.is_empty.ensures c.lines-test.true))

pub lines-preserved : goal.lines-preserved
lines-preserved c =
    rw (c.cut.ensures.behind, c.cut-in-lines.ensures.behind)
    (alike-more c.args.wanted.now c.args.text.now c.lines.left.now c.lines.rest.now c.lines.lines c.lines.invariant
    (some-from (length c.lines.left.now) c.is_empty.result c.is_empty.ensures c.lines-test.true)
    (some-from (length c.lines.rest.now) c.is_empty-in-lines.result c.is_empty-in-lines.ensures c.if-is_empty.false)
    (same-from c.cut.result.0.now c.cut-in-lines.result.0.now (front 10 c.lines.left.now) (front 10 c.lines.rest.now)
    c.ne.result c.cut.ensures.front c.cut-in-lines.ensures.front c.ne.ensures c.if-ne.false))
