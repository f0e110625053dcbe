use Rattle.std.proofs.Common.{◌∙◌, sym}
use Rattle.qel_store.proofs.TaskLemmas.{ring_at}
use Rattle.qel_store.proofs.tasks.task_ring.Goals as goal

pub returns-then-is_same_task : goal.returns-then-is_same_task
returns-then-is_same_task c =
    ring_at c.args.tasks.now.circles.entries c.args.task c.in-Some.known.now c.in-Some.ring.now c.in-Some.ensures.value
    (sym c.is_same_task.ensures ∙ c.if-is_same_task.true)
