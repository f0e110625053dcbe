use Rattle.qel_store.proofs.StoreLemmas.{absent_at}
use Rattle.qel_store.proofs.linked.LinkedQueuesQueues.push.Goals as goal

pub push_in-requires-clause-absent : goal.push_in-requires-clause-absent
push_in-requires-clause-absent c =
    absent_at c.args.self.now.elements.items c.args.queue c.args.elem.task c.requires.absent
