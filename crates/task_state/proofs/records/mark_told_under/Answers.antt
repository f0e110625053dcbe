use Rattle.std.proofs.Common.{ℕ, sym, ◌∙◌, ap, true}
use Rattle.std.specs.BTreeMap.{BTreeMap}
use Rattle.std.specs.Option.{option_copied_mut}
use Rattle.task_state.specs.declared.state.Rec.{Rec}
use Rattle.task_state.proofs.NumberLaws.{changed, unchanged}
use Rattle.task_state.proofs.records.mark_told_under.Goals as goal

pub returns-in-Some : goal.returns-in-Some
returns-in-Some c =
    let f = λ (x : Rec). record x { told = true } in
    (c.get_mut.follows.holds (f c.in-Some.rec.now)).0
    ∙ changed c.args.number f c.args.recs.now.entries c.in-Some.rec.now
    (sym c.get_mut.ensures.value ∙ ap option_copied_mut c.in-Some.is)

pub returns-in_default : goal.returns-in_default
returns-in_default c =
    let f = λ (x : Rec). record x { told = true } in
    ap (λ (m : BTreeMap ℕ Rec). m.entries) c.get_mut.follows.holds-at-none
    ∙ sym (unchanged c.args.number f c.args.recs.now.entries
    (sym c.get_mut.ensures.value ∙ ap option_copied_mut c.in_default.is))
