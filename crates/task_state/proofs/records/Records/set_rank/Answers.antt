use Rattle.std.proofs.Common.{refl, sym, ◌∙◌, ap, List}
use Rattle.std.specs.Map.{values_of}
use Rattle.task_state.specs.View.{on_record}
use Rattle.task_state.specs.declared.state.Rec.{Rec}
use Rattle.task_state.proofs.NumberLaws.{kept-on, values-on}
use Rattle.task_state.proofs.records.Records.set_rank.Goals as goal

pub invariant_of-self : goal.invariant_of-self
invariant_of-self c =
    kept-on c.self.inside.numbers.entries c.self.inside.recs.entries c.set_rank_under.new.recs.entries
    c.self.inside.next c.in-Some.number (λ (x : Rec). record x { rank = c.args.rank }) (λ x. refl) c.self.invariant
    c.set_rank_under.ensures

pub returns-in-Some : goal.returns-in-Some
returns-in-Some c =
    let f = λ (x : Rec). record x { rank = c.args.rank } in
    ap values_of c.set_rank_under.ensures
    ∙ values-on c.self.inside.next f c.self.inside.recs.entries c.args.res.now c.in-Some.number c.self.invariant.rising
    c.self.invariant.apart (sym (c.self.invariant.numbered c.args.res.now) ∙ sym c.find_number.ensures ∙ c.in-Some.is)
    ∙ ap (λ (xs : List Rec). on_record c.args.res.now f xs) c.self.view_is
