use Rattle.std.proofs.Common.{arith}
use Rattle.grs_latch.proofs.PurgeLemmas.{found-grants}
use Rattle.grs_latch.proofs.parts.purged_in.Goals as goal

pub returns-then-purged-count-clause-grants : goal.returns-then-purged-count-clause-grants
returns-then-purged-count-clause-grants g c =
    found-grants (g.Q.Queues.elements c.args.queues.now) c.args.set c.args.numbers.now c.loop-latch.latch
    c.loop-latch.purged.taken c.loop-latch.purged.grants _ c.args.task c.requires.numbered.apart
    c.loop-latch.invariant.taken (omega (arith, c.if-purged-count.true, c.count-count.ensures))
    c.loop-latch.invariant.grants
