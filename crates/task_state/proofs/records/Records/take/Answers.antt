use Rattle.std.proofs.Common.{◌∙◌, sym}
use Rattle.task_state.proofs.NumberLaws.{kept-take}
use Rattle.task_state.proofs.records.Records.take.Goals as goal

pub invariant_of-self : goal.invariant_of-self
invariant_of-self c =
    kept-take c.self.inside.numbers.entries c.take_number.new.numbers.entries c.self.inside.recs.entries
    c.take_under.new.recs.entries c.self.inside.next c.args.res.now c.in-Some.number c.self.invariant
    (sym c.take_number.ensures.number ∙ c.in-Some.is) c.take_under.ensures.left c.take_number.ensures.left
