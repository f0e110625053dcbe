use Rattle.std.proofs.Common.{◌∙◌}
use Rattle.queue_table.specs.Names.{named}
use Rattle.queue_table.proofs.NameLemmas.{without_absent}
use Rattle.queue_table.proofs.BehindLemmas.{told_none}
use Rattle.queue_table.proofs.parts.release_told_in.Goals as goal

pub returns-in-None-clause-elements : goal.returns-in-None-clause-elements
returns-in-None-clause-elements g c =
    without_absent (named c.args.numbers.now.entries (g.Q.Queues.elements c.args.queues.now)) c.args.res.now c.args.task
    c.in-None.ensures.list

pub returns-in-None-clause-owners : goal.returns-in-None-clause-owners
returns-in-None-clause-owners g c =
    c.new.ensures
    ∙ told_none (named c.args.numbers.now.entries (g.Q.Queues.elements c.args.queues.now)) c.args.res.now c.args.task
    c.in-None.ensures.list
