use Rattle.std.proofs.Common.{◌∙◌, sym}
use Rattle.qel_store.specs.declared.elements.Side.TheVariants.{Task}
use Rattle.qel_store.specs.Items.{is_of}
use Rattle.qel_store.proofs.TakeLemmas.{task_circle, count_of}
use Rattle.qel_store.proofs.WalkLemmas.{circle-length}
use Rattle.qel_store.proofs.linked.LinkedQueuesQueues.count.Goals as goal

pub returns : goal.returns
returns c =
    circle-length Task (is_of c.args.task) c.args.self.now.elements.items c.task_ring.result
    (task_circle c.args.self.now.elements.items c.args.self.now.tasks.circles.entries c.args.task c.task_ring.result
    c.args.self.now.queues.keys c.args.self.now.linked c.task_ring.ensures)
    ∙ sym (count_of c.args.self.now.elements.items c.args.task)
