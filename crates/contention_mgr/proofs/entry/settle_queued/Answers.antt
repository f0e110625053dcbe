use Rattle.std.proofs.Common.{false}
use Rattle.contention_mgr.specs.Marks.{mark_in}
use Rattle.contention_mgr.proofs.SettleLemmas.{enq-queued, enq-refused}
use Rattle.contention_mgr.proofs.entry.settle_queued.Goals as goal

pub returns-in-Ok-clause-after : goal.returns-in-Ok-clause-after
returns-in-Ok-clause-after c = λ s.
    (enq-queued s c.args.next.now (mark_in c.args.marks.now.names.entries c.args.marks.now.marks.entries)
    (mark_in c.add.new.self.names.entries c.add.new.self.marks.entries) c.args.table.now.elements
    c.carry_out.new.self.elements c.args.req.now.task c.args.req.now.want c.in-Enq.res c.in-Enq.ctl c.in-Enq.ret
    c.in-Enq.full c.in-Enq.is c.requires.queues c.requires.marked c.in_ok-add-in-Enq.ensures.ok c.in-Ok.ensures.after).0

pub returns-in-Ok-clause-marked : goal.returns-in-Ok-clause-marked
returns-in-Ok-clause-marked c =
    (enq-queued 0 c.args.next.now (mark_in c.args.marks.now.names.entries c.args.marks.now.marks.entries)
    (mark_in c.add.new.self.names.entries c.add.new.self.marks.entries) c.args.table.now.elements
    c.carry_out.new.self.elements c.args.req.now.task c.args.req.now.want c.in-Enq.res c.in-Enq.ctl c.in-Enq.ret
    c.in-Enq.full c.in-Enq.is c.requires.queues c.requires.marked c.in_ok-add-in-Enq.ensures.ok c.in-Ok.ensures.after).1

pub returns-in-Err-clause-unchanged : goal.returns-in-Err-clause-unchanged
returns-in-Err-clause-unchanged c =
    (enq-refused c.args.next.now (mark_in c.args.marks.now.names.entries c.args.marks.now.marks.entries)
    (mark_in c.add.new.self.names.entries c.add.new.self.marks.entries)
    (mark_in c.take.new.self.names.entries c.take.new.self.marks.entries) c.args.table.now.elements
    c.carry_out.new.self.elements c.args.req.now.task c.args.req.now.want c.in-Enq.res c.in-Enq.ctl c.in-Enq.ret
    c.in-Enq.full (record { rank = c.args.next.now; untold = false }) c.in-Enq.is c.requires.queues c.requires.marked
    c.in_ok-add-in-Enq.ensures.ok c.take.ensures c.in-Err.ensures.unchanged).0

pub returns-in-Err-clause-marked : goal.returns-in-Err-clause-marked
returns-in-Err-clause-marked c =
    (enq-refused c.args.next.now (mark_in c.args.marks.now.names.entries c.args.marks.now.marks.entries)
    (mark_in c.add.new.self.names.entries c.add.new.self.marks.entries)
    (mark_in c.take.new.self.names.entries c.take.new.self.marks.entries) c.args.table.now.elements
    c.carry_out.new.self.elements c.args.req.now.task c.args.req.now.want c.in-Enq.res c.in-Enq.ctl c.in-Enq.ret
    c.in-Enq.full (record { rank = c.args.next.now; untold = false }) c.in-Enq.is c.requires.queues c.requires.marked
    c.in_ok-add-in-Enq.ensures.ok c.take.ensures c.in-Err.ensures.unchanged).1
