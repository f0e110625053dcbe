use Rattle.std.proofs.Common.{ap, sym, ◌∙◌, arith, rules}
use Rattle.std.specs.Option.{option_map}
use Rattle.deck_form.specs.Words.{digits}
use Rattle.grs_audit.specs.Found.{capped}
use Rattle.grs_audit.proofs.HeadLaws.{digits-next, digits-none, digits-end}
use Rattle.grs_audit.proofs.head.number_behind.Goals as goal

pub returns-then-not-is_digit : goal.returns-then-not-is_digit
returns-then-not-is_digit c =
    digits-none c.digits.number c.in-Some.b.now c.in-Some.behind.now (sym c.is_digit.ensures ∙ c.if-not-is_digit.true)
    ∙ ap (λ xs. option_map capped (digits c.digits.number xs)) (sym c.in-Some.ensures.cases.0)
    ∙ c.digits.invariant.same

pub digits-preserved : goal.digits-preserved
digits-preserved c = record {
  same =
      digits-next c.digits.number c.saturating_add-number.result c.in-Some.b.now c.in-Some.behind.now
      (sym c.is_digit.ensures ∙ c.if-not-is_digit.false)
      (omega (arith, c.saturating_mul.ensures, c.from.ensures, c.saturating_add-number.ensures))
      ∙ ap (λ xs. option_map capped (digits c.digits.number xs)) (sym c.in-Some.ensures.cases.0)
      ∙ c.digits.invariant.same;
  small = omega (arith, c.saturating_add-number.ensures);
}

pub returns : goal.returns
returns c =
    digits-end c.digits.number c.digits.rest.now c.digits.invariant.small (search (rules, c.in_default.ensures.cases))
    ∙ c.digits.invariant.same
