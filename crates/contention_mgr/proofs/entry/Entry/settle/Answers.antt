use Rattle.std.proofs.Common.{sym, ◌∙◌}
use Rattle.contention_mgr.specs.Marks.{mark_in}
use Rattle.contention_mgr.proofs.SettleLemmas.{if_ok, answer-of, owners-of, rank-of, rank-none}
use Rattle.contention_mgr.proofs.entry.Entry.settle.Goals as goal

pub returns-then-queues-clause-answer : goal.returns-then-queues-clause-answer
returns-then-queues-clause-answer c =
    if_ok c.settle_queued.result (λ o is.
    is
    ∙ answer-of c.self.inside.next c.self.inside.table.elements
    (mark_in c.self.inside.marks.names.entries c.self.inside.marks.marks.entries) c.args.self.now c.args.req.now.task
    c.args.req.now.want c.self.view_is)
    c.settle_queued.ensures.answer

pub returns-then-queues-clause-rank : goal.returns-then-queues-clause-rank
returns-then-queues-clause-rank c =
    if_ok c.settle_queued.result (λ o is.
    is
    ∙ rank-of c.self.inside.next c.self.inside.table.elements
    (mark_in c.self.inside.marks.names.entries c.self.inside.marks.marks.entries) c.args.self.now c.args.req.now.task
    c.args.req.now.want c.self.view_is (sym c.queues.ensures ∙ c.if-queues.true))
    c.settle_queued.ensures.rank

pub returns-then-queues-clause-owners : goal.returns-then-queues-clause-owners
returns-then-queues-clause-owners c =
    if_ok c.settle_queued.result (λ o is.
    is
    ∙ owners-of c.self.inside.next c.self.inside.table.elements
    (mark_in c.self.inside.marks.names.entries c.self.inside.marks.marks.entries) c.args.self.now c.args.req.now.task
    c.args.req.now.want c.self.view_is)
    c.settle_queued.ensures.owners

pub returns-else-queues-clause-answer : goal.returns-else-queues-clause-answer
returns-else-queues-clause-answer c =
    if_ok c.settle_unqueued.result (λ o is.
    is
    ∙ answer-of c.self.inside.next c.self.inside.table.elements
    (mark_in c.self.inside.marks.names.entries c.self.inside.marks.marks.entries) c.args.self.now c.args.req.now.task
    c.args.req.now.want c.self.view_is)
    c.settle_unqueued.ensures.answer

pub returns-else-queues-clause-rank : goal.returns-else-queues-clause-rank
returns-else-queues-clause-rank c =
    if_ok c.settle_unqueued.result (λ o is.
    is
    ∙ rank-none c.self.inside.next c.self.inside.table.elements
    (mark_in c.self.inside.marks.names.entries c.self.inside.marks.marks.entries) c.args.self.now c.args.req.now.task
    c.args.req.now.want c.self.view_is (sym c.queues.ensures ∙ c.if-queues.false))
    c.settle_unqueued.ensures.rank

pub returns-else-queues-clause-owners : goal.returns-else-queues-clause-owners
returns-else-queues-clause-owners c =
    if_ok c.settle_unqueued.result (λ o is.
    is
    ∙ owners-of c.self.inside.next c.self.inside.table.elements
    (mark_in c.self.inside.marks.names.entries c.self.inside.marks.marks.entries) c.args.self.now c.args.req.now.task
    c.args.req.now.want c.self.view_is)
    c.settle_unqueued.ensures.owners
