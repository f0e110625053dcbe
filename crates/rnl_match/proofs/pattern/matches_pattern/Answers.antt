use Rattle.std.proofs.Common.{◌∙◌, arith, sym}
use Rattle.rnl_match.proofs.SearchLaws.{matches-end}
use Rattle.rnl_match.proofs.pattern.matches_pattern.Goals as goal

pub returns : goal.returns
returns c =
    matches-end c.args.pattern.now c.args.text.now c.loop-place.place (omega arith) (omega arith)
    ∙ sym c.loop-place.invariant.same
