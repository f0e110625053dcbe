use Rattle.std.proofs.Common.{sym, ◌∙◌}
use Rattle.grs_latch.specs.Latches.{obtained}
use Rattle.grs_latch.proofs.NumberLemmas.{lists_at-first, out_of_use, numbered-first, first-list}
use Rattle.grs_latch.proofs.parts.obtain_first.Goals as goal

pub returns-clause-lists : goal.returns-clause-lists
returns-clause-lists g c = λ may_wait.
    lists_at-first (g.Q.Queues.elements c.args.queues.now) (g.Q.Queues.elements c.begin.new.queues) c.in_ok-queue.queue
    c.in_ok-queue.ensures.others (λ es. obtained es c.args.elem.task c.args.elem.ctl may_wait) c.args.numbers.now
    c.args.latch c.requires.none
    (out_of_use c.args.numbers.now (g.Q.Queues.is_live c.args.queues.now) c.in_ok-queue.queue c.requires.numbered
    c.in_ok-queue.ensures.fresh)
    (c.in_ok-queue.ensures.list ∙ sym (first-list c.args.elem may_wait))

pub returns-clause-numbered : goal.returns-clause-numbered
returns-clause-numbered g c =
    numbered-first c.args.numbers.now (g.Q.Queues.is_live c.args.queues.now) (g.Q.Queues.is_live c.begin.new.queues)
    c.args.latch c.in_ok-queue.queue c.requires.numbered c.requires.none c.in_ok-queue.ensures.fresh
    c.in_ok-queue.ensures.live
