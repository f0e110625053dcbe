use Rattle.task_state.proofs.ViewLaws.{more_tasks}
use Rattle.task_state.proofs.tasks.add_tasks.Goals as goal

pub loop-preserved : goal.loop-preserved
loop-preserved c =
    more_tasks c.args.tasks.now.items c.loop.tasks.items c.push_task.new.tasks.items c.loop.counter c.loop.invariant
    c.in_ok-push_task.ensures
