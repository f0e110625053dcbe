use Rattle.std.proofs.Common.{sym, ◌∙◌}
use Rattle.deck_scan.proofs.PlainLines.{plain_next}
use Rattle.deck_scan.proofs.plain.take_plain.Goals as goal

pub returns : goal.returns
returns c =
    plain_next c.args.from c.in_ok-first.first.now c.in_ok-first.behind.now c.in_ok-text.text.now
    c.in_ok-second.second.now c.in_ok-second.behind.now c.in_ok-third.third c.in_ok-third.behind.now c.in_ok-rest.rest
    (sym c.is_some.ensures ∙ c.if-is_some.false) c.in_ok-first.ensures c.in_ok-text.ensures c.in_ok-second.ensures
    c.in_ok-third.ensures c.in_ok-rest.ensures.ends
