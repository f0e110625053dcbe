use Rattle.grs_latch.proofs.LatchLemmas.{push_absent, push_here, push_others}
use Rattle.grs_latch.proofs.queue.append.Goals as goal

pub push-requires-clause-absent : goal.push-requires-clause-absent
push-requires-clause-absent g c =
    push_absent (g.Q.Queues.elements c.args.queues.now) (g.Q.Queues.elements c.reserve.new.self) c.args.queue
    c.args.elem.task c.reserve.ensures.elements c.requires.absent

pub returns-clause-list : goal.returns-clause-list
returns-clause-list g c =
    push_here (g.Q.Queues.elements c.args.queues.now) (g.Q.Queues.elements c.reserve.new.self)
    (g.Q.Queues.elements c.push.new.self) c.args.queue c.args.elem c.reserve.ensures.elements c.push.ensures.elements

pub returns-clause-others : goal.returns-clause-others
returns-clause-others g c = λ q apart.
    push_others (g.Q.Queues.elements c.args.queues.now) (g.Q.Queues.elements c.reserve.new.self)
    (g.Q.Queues.elements c.push.new.self) c.args.queue q c.args.elem c.reserve.ensures.elements
    c.push.ensures.elements apart
