use Rattle.std.proofs.Common.{sym, ◌∙◌}
use Rattle.contention_mgr.specs.Marks.{mark_in}
use Rattle.contention_mgr.proofs.SettleLemmas.{answer-of, rank-of, rank-none}
use Rattle.contention_mgr.proofs.entry.Entry.answer.Goals as goal

pub returns-else-self-gt-LAST_NUMBER-clause-answer : goal.returns-else-self-gt-LAST_NUMBER-clause-answer
returns-else-self-gt-LAST_NUMBER-clause-answer c =
    c.in_ok-answer.ensures
    ∙ answer-of c.self.inside.next c.self.inside.table.elements
    (mark_in c.self.inside.marks.names.entries c.self.inside.marks.marks.entries) c.args.self.now c.args.req.now.task
    c.args.req.now.want c.self.view_is

pub returns-else-self-gt-LAST_NUMBER-clause-rank : goal.returns-else-self-gt-LAST_NUMBER-clause-rank
returns-else-self-gt-LAST_NUMBER-clause-rank c =
    rank-of c.self.inside.next c.self.inside.table.elements
    (mark_in c.self.inside.marks.names.entries c.self.inside.marks.marks.entries) c.args.self.now c.args.req.now.task
    c.args.req.now.want c.self.view_is (sym c.queues.ensures ∙ c.if-queues.true)

pub returns-else-queues-clause-answer : goal.returns-else-queues-clause-answer
returns-else-queues-clause-answer c =
    c.in_ok-answer.ensures
    ∙ answer-of c.self.inside.next c.self.inside.table.elements
    (mark_in c.self.inside.marks.names.entries c.self.inside.marks.marks.entries) c.args.self.now c.args.req.now.task
    c.args.req.now.want c.self.view_is

pub returns-else-queues-clause-rank : goal.returns-else-queues-clause-rank
returns-else-queues-clause-rank c =
    rank-none c.self.inside.next c.self.inside.table.elements
    (mark_in c.self.inside.marks.names.entries c.self.inside.marks.marks.entries) c.args.self.now c.args.req.now.task
    c.args.req.now.want c.self.view_is (sym c.queues.ensures ∙ c.if-queues.false)
