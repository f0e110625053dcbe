use Rattle.std.proofs.Common.{refl}
use Rattle.grs_base.specs.declared.resource.Ctl.TheVariants.{E}
use Rattle.task_state.specs.declared.state.Rec.{Rec}
use Rattle.task_state.proofs.NumberLaws.{kept-on}
use Rattle.task_state.proofs.records.Records.make_exclusive.Goals as goal

pub invariant_of-self : goal.invariant_of-self
invariant_of-self c =
    kept-on c.self.inside.numbers.entries c.self.inside.recs.entries c.make_exclusive_under.new.recs.entries
    c.self.inside.next c.in-Some.number (λ (x : Rec). record x { ctl = E }) (λ x. refl) c.self.invariant
    c.make_exclusive_under.ensures
