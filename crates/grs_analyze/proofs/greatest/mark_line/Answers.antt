use Rattle.grs_analyze.specs.Numbered.{is_flagged}
use Rattle.grs_analyze.proofs.MarkLemmas.{kept-end}
use Rattle.grs_analyze.proofs.greatest.mark_line.Goals as goal

pub returns-clause-marked : goal.returns-clause-marked
returns-clause-marked c =
    λ t. kept-end (is_flagged c.args.tasks.now c.args.members.now) t c.loop-spot.front c.front_of-front.result
    c.as_slice.result.now c.args.line.now.front c.args.line.now.waiters c.as_slice-spot-items.result.now
    c.loop-spot.spot-index (is_flagged c.args.tasks.now c.loop-spot.marks t)
    (is_flagged c.args.tasks.now c.args.marks.now t) c.as_slice-spot-items.ensures c.loop-spot-test.false
    c.as_slice.ensures c.front_of-front.ensures (c.loop-spot.invariant.marked t)
