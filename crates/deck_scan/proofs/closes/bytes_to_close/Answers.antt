use Rattle.std.proofs.Common.{true, false, rules}
use Rattle.deck_scan.proofs.Opened.{sought_none, sought_more, sought_all, sought_found}
use Rattle.deck_scan.proofs.closes.bytes_to_close.Goals as goal

pub loop-left-init : goal.loop-left-init
loop-left-init c = sought_none c.args.text.now c.args.closes

pub unreachable-requires : goal.unreachable-requires
unreachable-requires c =
    sought_all c.args.text.now c.args.closes c.loop-left.inside c.loop-left.left c.loop-left.rest.now
    (search (rules, c.in_default.ensures.cases)) c.requires c.loop-left-test.true c.loop-left.invariant

pub loop-left-preserved-then-is_closing : goal.loop-left-preserved-then-is_closing
loop-left-preserved-then-is_closing c =
    sought_more c.args.text.now c.args.closes c.loop-left.inside c.opened-inside.result c.loop-left.left
    c.loop-left.rest.now c.in-Some.b.now c.in-Some.tail.now true c.in-Some.ensures.cases.0 c.opened-inside.ensures
    c.loop-left-test.true (search rules) c.loop-left.invariant

pub loop-left-preserved : goal.loop-left-preserved
loop-left-preserved c =
    sought_more c.args.text.now c.args.closes c.loop-left.inside c.opened-inside.result c.loop-left.left
    c.loop-left.rest.now c.in-Some.b.now c.in-Some.tail.now false c.in-Some.ensures.cases.0 c.opened-inside.ensures
    c.loop-left-test.true (search rules) c.loop-left.invariant

pub returns : goal.returns
returns c =
    sought_found c.args.text.now c.args.closes c.loop-left.inside c.loop-left.left c.loop-left.rest.now
    c.loop-left-test.false c.loop-left.invariant
