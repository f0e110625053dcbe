use Rattle.std.proofs.Common.{subst}
use Rattle.task_state.proofs.Fronts.{front-next, on-err}
use Rattle.task_state.specs.Replies.{IsFront}
use Rattle.task_state.specs.View.{TasksView}
use Rattle.task_state.proofs.replies.tell_all.Goals as goal

pub returns-in_err-tell_control-clause-err : goal.returns-in_err-tell_control-clause-err
returns-in_err-tell_control-clause-err c =
    on-err c.from_residual.result
    (subst (λ (v : TasksView). IsFront c.tell_control.new.tasks.told v.told) c.loop-task.invariant.step
    (front-next c.loop-task.tasks c.args.res.now c.in-Some.task.now c.in-Some.tail.now c.loop-task.rest.now
    c.tell_control.new.tasks.told c.in-Some.ensures.cases.0 c.in_err-tell_control.ensures.err))
