use Rattle.std.proofs.Common.{◌∙◌, sym}
use Rattle.qel_store.proofs.TaskLemmas.{stands_at}
use Rattle.qel_store.proofs.tasks.is_at.Goals as goal

pub returns-in-Some : goal.returns-in-Some
returns-in-Some c = λ h.
    stands_at c.args.circles.now.entries c.args.place c.args.task c.in-Some.known.now _ (sym c.in-Some.ensures.entry)
    c.in-Some.ensures.value (sym c.is_same_task.ensures ∙ h)
