use Rattle.std.proofs.Common.{sym, ◌∙◌}
use Rattle.queue_table.proofs.FirstLemmas.{name_of-here, name_of-behind}
use Rattle.queue_table.proofs.first.name_from.Goals as goal

pub returns-then-number-queue : goal.returns-then-number-queue
returns-then-number-queue c =
    sym (name_of-here c.args.numbers.now.entries c.loop-i.i c.args.queue c.in-Some.res.now c.in-Some.number
    c.in-Some.ensures.entry c.if-number-queue.true)
    ∙ c.loop-i.invariant

pub loop-i-preserved : goal.loop-i-preserved
loop-i-preserved c =
    sym (name_of-behind c.args.numbers.now.entries c.loop-i.i c.args.queue c.in-Some.res.now c.in-Some.number
    c.in-Some.ensures.entry c.if-number-queue.false)
    ∙ c.loop-i.invariant
