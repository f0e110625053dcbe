use Rattle.std.proofs.Common.{Some}
use Rattle.task_state.proofs.NumberLaws.{by_same, when_ok}
use Rattle.task_state.proofs.records.add_number.Goals as goal

pub returns : goal.returns
returns c =
    by_same c.args.numbers.now.entries c.insert.new.self.entries c.args.res (Some c.args.number)
    (when_ok c.insert.result _ (c.insert.ensures.succeeds c.requires) c.insert.ensures.updates).0
