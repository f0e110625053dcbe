use Rattle.std.proofs.Common.{◌≡◌, ◌++◌, map, OnOk, subst}
use Rattle.grs_report.specs.Told.{told_lines, told_to, task_at}
use Rattle.grs_report.proofs.told.put_told_among.Goals as goal

pub returns : goal.returns
returns c =
    let task = c.args.task in
    let lines = map (λ t. t.now) c.under-lines.result.now in
    let under = c.under-lines.ensures task.system.0 task.job in
    let same : told_to task lines ≡ told_to task c.args.told.now =
    subst (λ n.
    told_to (task_at task.system.0 task.job n) lines ≡ told_to (task_at task.system.0 task.job n) c.args.told.now)
    c.from.ensures under in
    subst (λ told.
    OnOk c.put_told_to.result (c.put_told_to.new.out ≡ c.args.out.now ++ told_lines c.args.names.now told))
    same c.put_told_to.ensures
