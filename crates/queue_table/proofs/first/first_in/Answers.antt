use Rattle.std.proofs.Common.{ap, sym, ◌∙◌}
use Rattle.queue_table.proofs.FirstLemmas.{name_of_some, first-named}
use Rattle.queue_table.proofs.first.first_in.Goals as goal

pub returns-in-Some : goal.returns-in-Some
returns-in-Some g c =
    c.name_in.ensures
    ∙ ap (name_of_some c.args.numbers.now.entries) (sym c.in-Some.is ∙ c.first_of.ensures)
    ∙ first-named c.args.numbers.now.entries (g.Q.Queues.elements c.args.queues.now) c.args.task
    c.requires.table.named_all

pub returns-in-None : goal.returns-in-None
returns-in-None g c =
    ap (name_of_some c.args.numbers.now.entries) (sym c.in-None.is ∙ c.first_of.ensures)
    ∙ first-named c.args.numbers.now.entries (g.Q.Queues.elements c.args.queues.now) c.args.task
    c.requires.table.named_all
