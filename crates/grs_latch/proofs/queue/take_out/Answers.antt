use Rattle.grs_latch.proofs.LatchLemmas.{take_here, take_others}
use Rattle.grs_latch.proofs.queue.take_out.Goals as goal

pub returns-clause-list : goal.returns-clause-list
returns-clause-list g c =
    take_here (g.Q.Queues.elements c.args.queues.now) (g.Q.Queues.elements c.take_told.new.self) c.args.queue
    c.args.task
    c.in_ok-tasks.ensures.elements

pub returns-clause-others : goal.returns-clause-others
returns-clause-others g c = λ q apart.
    take_others (g.Q.Queues.elements c.args.queues.now) (g.Q.Queues.elements c.take_told.new.self) c.args.queue q
    c.args.task c.in_ok-tasks.ensures.elements apart
