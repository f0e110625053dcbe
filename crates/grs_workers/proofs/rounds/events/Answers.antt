use Rattle.std.proofs.Common.{◌∙◌, arith}
use Rattle.grs_workers.specs.Stands.{stand}
use Rattle.grs_workers.proofs.DeedLaws.{goes-more, went-on}
use Rattle.grs_workers.proofs.rounds.events.Goals as goal

pub loop-made-preserved : goal.loop-made-preserved
loop-made-preserved g c = let done = c.in_ok-event.ensures.done in record {
  goes =
      goes-more (stand c.args.worker.now) (stand c.loop-made.worker) (stand c.event.new.worker) c.loop-made.made done.0
      c.loop-made.invariant.goes done.1 (done.2 ∙ c.if-branch.false);
  on = c.in_ok-event.ensures.on;
  agrees = c.in_ok-event.ensures.agrees;
}

pub returns-clause-went : goal.returns-clause-went
returns-clause-went g c =
    went-on (stand c.args.worker.now) (stand c.loop-made.worker) c.loop-made.made c.loop-made.invariant.goes
    (omega arith)
