use Rattle.std.proofs.Common.{ap, ◌∙◌}
use Rattle.std.proofs.lemmas.Result.{on_err_weaker}
use Rattle.grs_wire.specs.declared.told.ToldLine.{ToldLine}
use Rattle.grs_wire.specs.declared.told.ToldLine.TheVariants.{Post}
use Rattle.task_state.proofs.Fronts.{front-by, front-passes, front-telling, front-trans, on-err}
use Rattle.task_state.specs.View.{TasksView, telling}
use Rattle.task_state.proofs.replies.post_line.Goals as goal

pub returns-in_err-tell-clause-err : goal.returns-in_err-tell-clause-err
returns-in_err-tell-clause-err c =
    let line : ToldLine = Post c.args.task c.args.line in
    on-err c.from_residual.result
    (front-by c.args.tasks.now c.tell.new.self _ (ap (λ (v : TasksView). v.told) c.in_err-tell.ensures.err)
    (front-trans c.args.tasks.now.told _ _ (front-telling c.args.tasks.now line)
    (front-passes (telling c.args.tasks.now line) c.args.task c.args.res.now)))

pub returns-clause-err : goal.returns-clause-err
returns-clause-err c =
    let posted : TasksView = telling c.args.tasks.now (Post c.args.task c.args.line) in
    on_err_weaker c.passes_wait.result
    (λ same.
    front-by posted c.passes_wait.new.tasks _ (same ∙ ap (λ (v : TasksView). v.told) c.in_ok-tell.ensures.ok)
    (front-passes posted c.args.task c.args.res.now))
    c.passes_wait.ensures.err
