use Rattle.grs_workers.specs.Stands.{stand}
use Rattle.grs_workers.proofs.DeedLaws.{grew-further}
use Rattle.grs_workers.proofs.stretch.events_in_stretch.Goals as goal

pub loop-preserved : goal.loop-preserved
loop-preserved g c = record {
  grew =
      grew-further (stand c.args.worker.now) (stand c.loop.worker) (stand c.step.new.worker) c.loop.invariant.grew
      c.in_ok-step.ensures.grew;
  on = c.in_ok-step.ensures.on;
  agrees = c.in_ok-step.ensures.agrees;
}

pub returns-in-Out-clause-grew : goal.returns-in-Out-clause-grew
returns-in-Out-clause-grew g c =
    grew-further (stand c.args.worker.now) (stand c.loop.worker) (stand c.step.new.worker) c.loop.invariant.grew
    c.in_ok-step.ensures.grew

pub returns-in-Away-clause-grew : goal.returns-in-Away-clause-grew
returns-in-Away-clause-grew g c =
    grew-further (stand c.args.worker.now) (stand c.loop.worker) (stand c.step.new.worker) c.loop.invariant.grew
    c.in_ok-step.ensures.grew
