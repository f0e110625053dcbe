use Rattle.std.proofs.Common.{sym, ◌∙◌}
use Rattle.deck_scan.proofs.Pieces.{split_some, split_none}
use Rattle.deck_scan.proofs.bytes.cut.Goals as goal

pub returns-in-Some : goal.returns-in-Some
returns-in-Some c = λ p at.
    rw (c.split_at.ensures.front, c.split_at.ensures.back)
    (split_some p c.args.text.now c.in-Some.i (sym at ∙ c.in-Some.is))

pub returns-in-None : goal.returns-in-None
returns-in-None c = λ p at. split_none p c.args.text.now (sym at ∙ c.in-None.is)
