use Rattle.std.proofs.Common.{◌∙◌, sym}
use Rattle.contention_mgr.specs.Marks.{mark_in}
use Rattle.contention_mgr.proofs.SettleLemmas.{enq-kept, deq-given, deq-kept, release-given, owner-by}
use Rattle.contention_mgr.proofs.entry.mark_after.Goals as goal

pub returns-in-Enq : goal.returns-in-Enq
returns-in-Enq c = λ n s after queued are answer who behind.
    enq-kept c.args.system.0 n (mark_in c.args.marks.now.names.entries c.args.marks.now.marks.entries) s after
    c.args.req.now.task c.args.req.now.want c.in-Enq.res c.in-Enq.ctl c.in-Enq.ret c.in-Enq.full c.in-Enq.is queued are
    behind

pub returns-then-is_zero : goal.returns-then-is_zero
returns-then-is_zero c = λ n s after queued are answer who behind.
    deq-given c.args.system.0 n (mark_in c.args.marks.now.names.entries c.args.marks.now.marks.entries)
    (mark_in c.give_up.new.marks.names.entries c.give_up.new.marks.marks.entries) s after c.args.req.now.task
    c.args.req.now.want c.in-Deq.res c.in-Deq.have c.as_slice.result.now c.in-Deq.is
    (owner-by s c.args.req.now.task c.args.req.now.want c.in-Deq.res c.in-Deq.have c.args.outcome.now.answer _
    c.in-Deq.is answer (sym c.is_zero.ensures ∙ c.if-is_zero.true))
    (c.as_slice.ensures ∙ who) (c.give_up.ensures s are) behind

pub returns-else-is_zero : goal.returns-else-is_zero
returns-else-is_zero c = λ n s after queued are answer who behind.
    deq-kept c.args.system.0 n (mark_in c.args.marks.now.names.entries c.args.marks.now.marks.entries) s after
    c.args.req.now.task c.args.req.now.want c.in-Deq.res c.in-Deq.have c.in-Deq.is
    (owner-by s c.args.req.now.task c.args.req.now.want c.in-Deq.res c.in-Deq.have c.args.outcome.now.answer _
    c.in-Deq.is answer (sym c.is_zero.ensures ∙ c.if-is_zero.false))
    are behind

pub returns-in-Release : goal.returns-in-Release
returns-in-Release c = λ n s after queued are answer who behind.
    release-given c.args.system.0 n (mark_in c.args.marks.now.names.entries c.args.marks.now.marks.entries)
    (mark_in c.give_up-in-Release.new.marks.names.entries c.give_up-in-Release.new.marks.marks.entries) s after
    c.args.req.now.task c.args.req.now.want c.in-Release.res c.as_slice-in-Release.result.now c.in-Release.is
    (c.as_slice-in-Release.ensures ∙ who) (c.give_up-in-Release.ensures s are) behind
