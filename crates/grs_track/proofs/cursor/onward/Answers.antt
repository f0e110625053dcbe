use Rattle.std.proofs.Common.{◌≡◌, ◌≤◌, ◌<◌, ap, sym, ◌∙◌, Some, arith}
use Rattle.std.proofs.lemmas.Option.{slice_get-get_or}
use Rattle.grs_base.specs.declared.line.Line.{Line}
use Rattle.grs_track.proofs.CursorLaws.{past-on}
use Rattle.grs_track.proofs.cursor.onward.Goals as goal

pub lines-preserved : goal.lines-preserved
lines-preserved c = λ asked at.
    past-on c.args.lines.now asked c.lines.place c.lines.part c.asks_count-count.result c.index-lines-place.result
    (c.lines.invariant asked at)
    (slice_get-get_or c.args.lines.now c.lines.place c.index-lines-place.result (omega (arith, c.lines-test.true))
    ∙ ap (λ (l : Line). Some l) (sym c.index-lines-place.is))
    c.asks_count-count.ensures (omega (arith, c.if-part-eq0.false)) (omega (arith, c.if-part-count.false))
