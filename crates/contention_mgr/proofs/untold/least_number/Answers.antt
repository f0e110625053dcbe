use Rattle.std.proofs.Common.{sym}
use Rattle.contention_mgr.proofs.UntoldLemmas.{least-more, there-more}
use Rattle.contention_mgr.proofs.untold.least_number.Goals as goal

pub loop-i-preserved : goal.loop-i-preserved
loop-i-preserved c = record {
  least =
      least-more c.args.home.0 c.args.names.now.entries c.loop-i.best c.with_mark-best.result c.args.marks.now.entries
      c.loop-i.i (c.in-Some.spot.now, c.in-Some.mark.now) _ (sym c.in-Some.ensures.entry) c.with_mark-best.ensures
      c.loop-i.invariant.least;
  there =
      there-more c.args.home.0 c.args.names.now.entries c.args.marks.now.entries c.loop-i.best c.with_mark-best.result
      (c.in-Some.spot.now, c.in-Some.mark.now) c.in-Some.ensures.value c.with_mark-best.ensures
      c.loop-i.invariant.there;
}
