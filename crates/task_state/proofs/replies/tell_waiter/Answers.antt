use Rattle.std.proofs.Common.{ap, ◌∙◌}
use Rattle.std.proofs.lemmas.Result.{on_err_weaker}
use Rattle.task_state.proofs.Fronts.{front-by, front-line, lines-phase, lines-told}
use Rattle.task_state.specs.View.{TasksView}
use Rattle.task_state.proofs.replies.tell_waiter.Goals as goal

pub returns-then-is_waiting-clause-err : goal.returns-then-is_waiting-clause-err
returns-then-is_waiting-clause-err c =
    on_err_weaker c.tell.result
    (λ same.
    front-by c.args.tasks.now c.tell.new.self _
    (ap (λ (v : TasksView). v.told) same
    ∙ ap (λ (v : TasksView). v.told) c.set_phase.ensures
    ∙ lines-phase _ _ _
    ∙ ap (λ (v : TasksView). v.told) c.mark_told.ensures
    ∙ lines-told _ _ _)
    (front-line c.args.tasks.now c.args.task c.args.res.now c.args.line))
    c.tell.ensures.err
