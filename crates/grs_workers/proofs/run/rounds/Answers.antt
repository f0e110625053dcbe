use Rattle.std.proofs.Common.{◌∙◌}
use Rattle.grs_workers.proofs.RoundLaws.{grew-again}
use Rattle.grs_workers.proofs.run.rounds.Goals as goal

pub loop-preserved : goal.loop-preserved
loop-preserved g c = record {
  on = c.in_ok-moved.ensures.on;
  agree = c.in_ok-moved.ensures.agree;
  grew =
      grew-again c.args.workers.items c.loop.workers.items c.in_ok-moved.moved.items c.loop.invariant.count
      c.loop.invariant.grew c.in_ok-moved.ensures.grew;
  count = c.in_ok-moved.ensures.count ∙ c.loop.invariant.count;
}

pub returns-then-over-clause-grew : goal.returns-then-over-clause-grew
returns-then-over-clause-grew g c =
    grew-again c.args.workers.items c.loop.workers.items c.in_ok-moved.moved.items c.loop.invariant.count
    c.loop.invariant.grew c.in_ok-moved.ensures.grew

pub returns-then-over-clause-count : goal.returns-then-over-clause-count
returns-then-over-clause-count g c = c.in_ok-moved.ensures.count ∙ c.loop.invariant.count

pub returns-then-over-clause-over : goal.returns-then-over-clause-over
returns-then-over-clause-over g c = c.in_ok-moved.ensures.over c.if-over.true
