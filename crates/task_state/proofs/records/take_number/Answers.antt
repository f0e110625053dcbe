use Rattle.std.proofs.Common.{None}
use Rattle.task_state.proofs.NumberLaws.{by_same}
use Rattle.task_state.proofs.records.take_number.Goals as goal

pub returns-clause-left : goal.returns-clause-left
returns-clause-left c =
    by_same c.args.numbers.now.entries c.swap_remove.new.self.entries c.args.res.now None
    c.swap_remove.ensures.updates.0
