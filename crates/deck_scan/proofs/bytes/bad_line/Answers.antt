use Rattle.std.proofs.Common.{sym, ◌∙◌, arith, rules}
use Rattle.deck_scan.proofs.BadBytes.{common_good, bad_here, bad_later, bad_nowhere, line_small}
use Rattle.deck_scan.proofs.bytes.bad_line.Goals as goal

pub returns-then-all_common : goal.returns-then-all_common
returns-then-all_common c = sym (common_good 1 c.args.text.now (sym c.all_common.ensures ∙ c.if-all_common.true))

pub returns-then-not-is_allowed_byte : goal.returns-then-not-is_allowed_byte
returns-then-not-is_allowed_byte c =
    bad_here c.loop-b.line c.loop-b.rest.now c.in-Some.b.now c.in-Some.tail.now _ c.in-Some.ensures.cases.0
    (sym c.is_allowed_byte.ensures ∙ c.if-not-is_allowed_byte.true) c.loop-b.invariant.reads

pub loop-b-preserved : goal.loop-b-preserved
loop-b-preserved c = record {
  reads =
      bad_later c.loop-b.line c.loop-b.rest.now c.in-Some.b.now c.in-Some.tail.now c.line_behind-line.result _
      c.in-Some.ensures.cases.0 (sym c.is_allowed_byte.ensures ∙ c.if-not-is_allowed_byte.false)
      c.line_behind-line.ensures c.loop-b.invariant.reads;
  small =
      let few = line_small c.in-Some.b.now c.loop-b.line c.line_behind-line.result c.line_behind-line.ensures in
      let long = c.in-Some.ensures.cases.1 in
      let before = c.loop-b.invariant.small in
      omega (arith, few, long, before);
}

pub returns : goal.returns
returns c =
    bad_nowhere c.loop-b.line c.loop-b.rest.now _ (search (rules, c.in_default.ensures.cases)) c.loop-b.invariant.reads
