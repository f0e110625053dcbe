use Rattle.std.proofs.Common.{Some, ap, ◌∙◌}
use Rattle.queue_table.proofs.FirstLemmas.{name_of-place}
use Rattle.queue_table.proofs.first.named_at.Goals as goal

pub returns-in-Some : goal.returns-in-Some
returns-in-Some c =
    name_of-place c.args.numbers.now.entries c.args.place c.args.queue c.in-Some.res.now c.requires
    (c.in-Some.ensures.entry ∙ ap (λ n. Some (c.in-Some.res.now, n)) c.if-number-queue.true)
