use Rattle.std.proofs.Common.{◌<◌, ℕ, List, length, ap, sym, subst, ◌∙◌}
use Rattle.std.specs.Option.{option_map}
use Rattle.grs_audit.specs.Found.{capped}
use Rattle.grs_audit.specs.Verdicts.{count_in}
use Rattle.grs_audit.proofs.HeadLaws.{looked-none, looked-more, looked-here, looked-all, behind-shorter}
use Rattle.grs_audit.proofs.PartLaws.{some-from, none-from}
use Rattle.grs_audit.proofs.head.find_head.Goals as goal

pub lines-init : goal.lines-init
lines-init c = looked-none c.args.text.now

pub returns-in-Some : goal.returns-in-Some
returns-in-Some c =
    looked-here c.args.text.now c.lines.rest.now c.lines.place c.in-Some.count c.cut.result.1 c.lines.invariant
    (some-from (length c.lines.rest.now) c.is_empty.result c.is_empty.ensures c.lines-test.true)
    (sym c.in-Some.is ∙ c.count_in.ensures ∙ ap (λ l. option_map capped (count_in l)) c.cut.ensures.front)
    c.cut.ensures.behind

pub lines-smaller : goal.lines-smaller
lines-smaller c =
    subst (λ (xs : List ℕ). length xs < length c.lines.rest.now) (sym c.cut.ensures.behind)
    (behind-shorter 10 c.lines.rest.now
    (some-from (length c.lines.rest.now) c.is_empty.result c.is_empty.ensures c.lines-test.true))

pub lines-preserved : goal.lines-preserved
lines-preserved c =
    rw c.cut.ensures.behind
    (looked-more c.args.text.now c.lines.rest.now c.lines.place c.lines.invariant
    (some-from (length c.lines.rest.now) c.is_empty.result c.is_empty.ensures c.lines-test.true)
    (sym c.in-None.is ∙ c.count_in.ensures ∙ ap (λ l. option_map capped (count_in l)) c.cut.ensures.front))

pub returns : goal.returns
returns c =
    looked-all c.args.text.now c.lines.rest.now c.lines.place c.lines.invariant
    (none-from (length c.lines.rest.now) c.is_empty.result c.is_empty.ensures c.lines-test.false)
