use Rattle.std.proofs.Common.{refl, true}
use Rattle.task_state.specs.declared.state.Rec.{Rec}
use Rattle.task_state.proofs.NumberLaws.{kept-on}
use Rattle.task_state.proofs.records.Records.mark_told.Goals as goal

pub invariant_of-self : goal.invariant_of-self
invariant_of-self c =
    kept-on c.self.inside.numbers.entries c.self.inside.recs.entries c.mark_told_under.new.recs.entries
    c.self.inside.next c.in-Some.number (λ (x : Rec). record x { told = true }) (λ x. refl) c.self.invariant
    c.mark_told_under.ensures
