use Rattle.contention_mgr.proofs.entry.settle_unqueued.Goals as goal

pub returns-clause-after : goal.returns-clause-after
returns-clause-after c =
    (c.mark_after.ensures c.args.next c.args.table.now.elements c.carry_out.new.self.elements c.requires.queues
    c.requires.marked c.in_ok-outcome.ensures.answer c.in_ok-outcome.ensures.owners c.in_ok-outcome.ensures.after).0

pub returns-clause-marked : goal.returns-clause-marked
returns-clause-marked c =
    (c.mark_after.ensures c.args.next c.args.table.now.elements c.carry_out.new.self.elements c.requires.queues
    c.requires.marked c.in_ok-outcome.ensures.answer c.in_ok-outcome.ensures.owners c.in_ok-outcome.ensures.after).1
