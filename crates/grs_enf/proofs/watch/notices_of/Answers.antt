use Rattle.std.proofs.Common.{◌∙◌}
use Rattle.grs_enf.proofs.StepLemmas.{notices-next}
use Rattle.grs_enf.proofs.watch.notices_of.Goals as goal

pub loop-place-preserved : goal.loop-place-preserved
loop-place-preserved c =
    notices-next c.loop-place.watch c.step.new.self c.loop-place.place c.index-hist-place.result c.args.hist.now
    c.as_slice.result.now c.loop-place.noted c.put_noted.new.out _ c.loop-place-test.true c.index-hist-place.is
    (c.as_slice.ensures ∙ c.in_ok-notices.ensures.notices) c.in_ok-notices.ensures.after c.in_ok-put_noted.ensures c.loop-place.invariant
