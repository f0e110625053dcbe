use Rattle.std.proofs.Common.{◌≡◌, ap, subst}
use Rattle.std.specs.Prelude.{OnOk}
use Rattle.contention_mgr.specs.Manager.{ManagerView, items_of, managed_for, plain, rank_for}
use Rattle.grs_node.specs.Star.{StarPart}
use Rattle.grs_node.proofs.Decided.{told-same}
use Rattle.grs_wire.specs.Wants.{answer_to, new_owners}
use Rattle.task_state.specs.View.{TasksView}
use Rattle.grs_node.proofs.star.StarPart.decide_req.Goals as goal

pub returns-clause-tasks : goal.returns-clause-tasks
returns-clause-tasks c =
    let own = ap (λ (p : StarPart). p.manager) c.self.view_is in
    let answer =
    subst (λ (m : ManagerView).
    c.in_ok-outcome.outcome.answer
    ≡ answer_to (plain (items_of (managed_for m c.args.req.now.want))) c.args.req.now.task c.args.req.now.want)
    own c.in_ok-outcome.ensures.answer in
    let rank =
    subst (λ (m : ManagerView).
    c.in_ok-outcome.outcome.rank ≡ rank_for (managed_for m c.args.req.now.want) c.args.req.now.task c.args.req.now.want)
    own c.in_ok-outcome.ensures.rank in
    let owners =
    subst (λ (m : ManagerView).
    c.in_ok-outcome.outcome.owners
    ≡ new_owners (plain (items_of (managed_for m c.args.req.now.want))) c.args.req.now.task c.args.req.now.want)
    own c.in_ok-outcome.ensures.owners in
    subst (λ (v : TasksView). OnOk c.tell_ranked.result (c.tell_ranked.new.tasks ≡ v))
    (told-same c.args.tasks.now c.args.self.now c.args.req.now c.in_ok-outcome.outcome.answer
    c.in_ok-outcome.outcome.rank c.in_ok-outcome.outcome.owners answer rank owners)
    c.tell_ranked.ensures.step
