use Rattle.std.proofs.Common.{◌∙◌, arith, sym}
use Rattle.rnl_match.specs.Matches.{matches}
use Rattle.rnl_match.proofs.IndexLaws.{first_place-here, first_place-later}
use Rattle.rnl_match.proofs.index.first_before.Goals as goal

pub returns-then-matches_counted-clause-first : goal.returns-then-matches_counted-clause-first
returns-then-matches_counted-clause-first g c =
    sym (c.loop-place.invariant.first
    ∙ first_place-here (λ e. matches e c.args.q.now c.args.r.now) c.args.entries.now c.args.end c.args.places.now
    c.loop-place.place-index c.index-entries-place.result (omega arith) (omega (arith, c.if-place-end.false))
    (c.requires.within c.loop-place.place-index 0 (omega arith)) c.index-entries-place.is cc)

pub loop-place-preserved : goal.loop-place-preserved
loop-place-preserved g c = record {
  first =
      c.loop-place.invariant.first
      ∙ first_place-later (λ e. matches e c.args.q.now c.args.r.now) c.args.entries.now c.args.end c.args.places.now
      c.loop-place.place-index c.index-entries-place.result (omega arith) (omega (arith, c.if-place-end.false))
      (c.requires.within c.loop-place.place-index 0 (omega arith)) c.index-entries-place.is cc;
  steps = omega (arith, c.loop-place.invariant.steps, c.if-matches_counted.ensures.step);
}
