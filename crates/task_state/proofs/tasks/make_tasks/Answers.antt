use Rattle.std.proofs.Common.{arith}
use Rattle.task_state.proofs.ViewLaws.{more_jobs}
use Rattle.task_state.proofs.tasks.make_tasks.Goals as goal

pub loop-count-preserved : goal.loop-count-preserved
loop-count-preserved c =
    more_jobs c.loop-count.tasks.items c.add_tasks.new.tasks.items c.args.jobs.now c.loop-count.count-index
    (omega arith) c.loop-count.invariant c.in_ok-add_tasks.ensures
