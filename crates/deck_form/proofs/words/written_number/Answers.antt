use Rattle.std.proofs.Common.{◌≡◌, ◌-◌, ◌∙◌, true, length, refl, sym, arith}
use Rattle.grs_base.specs.ShortNames.{is_digit}
use Rattle.deck_form.proofs.Numbers.{none_yet, digits_more, digit_small, small_more, small_now}
use Rattle.deck_form.proofs.words.written_number.Goals as goal

pub loop-b-init : goal.loop-b-init
loop-b-init c = record { reads = refl; small = none_yet (9 - length c.args.w.now); short = omega arith }

pub overflow_mul-number : goal.overflow_mul-number
overflow_mul-number c =
    let below =
    small_now c.loop-b.number c.in-Some.b.now c.loop-b.rest.now c.in-Some.tail.now c.in-Some.ensures.cases.0
    c.loop-b.invariant.short c.loop-b.invariant.small in
    omega (arith, below)

pub overflow_add-number : goal.overflow_add-number
overflow_add-number c =
    let below =
    small_now c.loop-b.number c.in-Some.b.now c.loop-b.rest.now c.in-Some.tail.now c.in-Some.ensures.cases.0
    c.loop-b.invariant.short c.loop-b.invariant.small in
    let digit : is_digit c.in-Some.b.now ≡ true = sym c.is_digit.ensures ∙ c.if-not-is_digit.false in
    let low = digit_small c.in-Some.b.now c.from.result digit c.from.ensures in
    omega (arith, below, low)

pub loop-b-preserved : goal.loop-b-preserved
loop-b-preserved c =
    let digit : is_digit c.in-Some.b.now ≡ true = sym c.is_digit.ensures ∙ c.if-not-is_digit.false in
    let low = digit_small c.in-Some.b.now c.from.result digit c.from.ensures in
    record {
      reads =
          digits_more c.loop-b.number c.in-Some.b.now c.from.result c.loop-b.rest.now c.in-Some.tail.now _
          c.in-Some.ensures.cases.0 digit c.from.ensures c.loop-b.invariant.reads;
      small =
          small_more c.loop-b.number c.in-Some.b.now c.from.result c.loop-b.rest.now c.in-Some.tail.now
          c.in-Some.ensures.cases.0 low c.loop-b.invariant.short c.loop-b.invariant.small;
      short =
          let before = c.loop-b.invariant.short in let long = c.in-Some.ensures.cases.1 in omega (arith, before, long);
    }
