use Rattle.std.proofs.Common.{◌≡◌, ◌∙◌, ap, sym, subst, cond, List, ℕ, Some, arith}
use Rattle.std.specs.Map.{lookup}
use Rattle.grs_base.specs.Same.{same_res}
use Rattle.grs_base.specs.declared.resource.Res.{Res}
use Rattle.task_state.specs.Numbers.{IsKept}
use Rattle.task_state.specs.View.{record_of}
use Rattle.task_state.specs.declared.state.Rec.{Rec}
use Rattle.task_state.proofs.NumberLaws.{kept-push}
use Rattle.task_state.proofs.records.Records.push_new.Goals as goal

pub invariant_of-self-2 : goal.invariant_of-self-2
invariant_of-self-2 c =
    let ns = c.reserve_number.new.numbers.entries in
    let kept =
    subst (λ (l : List (Res × ℕ)). IsKept l c.self.inside.recs.entries c.self.inside.next)
    (sym c.reserve_number.ensures.same) c.self.invariant in
    let said =
    subst (λ (z : Res).
    (r : Res)
    → lookup (same_res r) c.add_number.new.numbers.entries
    ≡ cond (same_res z r) (Some c.self.inside.next) (lookup (same_res r) ns))
    c.in_ok-res.ensures c.add_number.ensures in
    kept-push ns c.add_number.new.numbers.entries c.self.inside.recs.entries c.add_under.new.recs.entries
    c.self.inside.next c.args.rec kept
    (ap (λ (xs : List Rec). record_of xs c.args.rec.res) c.self.view_is ∙ c.requires)
    (omega (arith, c.len.ensures.len, c.if-len.false)) c.in_ok-add_under.ensures.ok said
