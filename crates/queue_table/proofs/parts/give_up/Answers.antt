use Rattle.std.proofs.Common.{nat_eq}
use Rattle.grs_base.specs.State.{list_at}
use Rattle.queue_table.specs.Names.{named}
use Rattle.queue_table.proofs.NameLemmas.{IsTable-told}
use Rattle.queue_table.proofs.BehindLemmas.{told_by_ok}
use Rattle.queue_table.proofs.parts.give_up.Goals as goal

pub returns-clause-owners : goal.returns-clause-owners
returns-clause-owners g c =
    told_by_ok (named c.args.numbers.now.entries (g.Q.Queues.elements c.args.queues.now)) c.args.res.now c.args.task
    (list_at nat_eq (g.Q.Queues.elements c.args.queues.now) c.args.queue) c.take_told-tasks.result
    c.requires.list c.take_told-tasks.ensures.apart c.take_told-tasks.ensures.tasks

pub returns-clause-table : goal.returns-clause-table
returns-clause-table g c =
    (IsTable-told c.args.numbers.now.entries (g.Q.Queues.elements c.args.queues.now)
    (g.Q.Queues.elements c.take_told-tasks.new.self) (g.Q.Queues.is_live c.args.queues.now)
    (g.Q.Queues.is_live c.take_told-tasks.new.self) c.args.res.now c.args.queue c.args.task c.take_told-tasks.result
    c.requires.table c.requires.number c.take_told-tasks.ensures.elements c.take_told-tasks.ensures.unchanged
    c.take_told-tasks.ensures.live).0

pub returns-clause-elements : goal.returns-clause-elements
returns-clause-elements g c =
    (IsTable-told c.args.numbers.now.entries (g.Q.Queues.elements c.args.queues.now)
    (g.Q.Queues.elements c.take_told-tasks.new.self) (g.Q.Queues.is_live c.args.queues.now)
    (g.Q.Queues.is_live c.take_told-tasks.new.self) c.args.res.now c.args.queue c.args.task c.take_told-tasks.result
    c.requires.table c.requires.number c.take_told-tasks.ensures.elements c.take_told-tasks.ensures.unchanged
    c.take_told-tasks.ensures.live).1

pub returns-clause-unchanged : goal.returns-clause-unchanged
returns-clause-unchanged g c =
    (IsTable-told c.args.numbers.now.entries (g.Q.Queues.elements c.args.queues.now)
    (g.Q.Queues.elements c.take_told-tasks.new.self) (g.Q.Queues.is_live c.args.queues.now)
    (g.Q.Queues.is_live c.take_told-tasks.new.self) c.args.res.now c.args.queue c.args.task c.take_told-tasks.result
    c.requires.table c.requires.number c.take_told-tasks.ensures.elements c.take_told-tasks.ensures.unchanged
    c.take_told-tasks.ensures.live).2
