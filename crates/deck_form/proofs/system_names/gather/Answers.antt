use Rattle.std.proofs.Common.{◌≡◌, true, false, length, refl, sym, ap, ◌∙◌, arith}
use Rattle.deck_form.proofs.Systems.{one_next, none_next, names_goes, names_end, nothing_left, schedule_next}
use Rattle.deck_form.proofs.system_names.gather.Goals as goal

pub loop-names-init : goal.loop-names-init
loop-names-init c = refl

pub returns-then-is_last : goal.returns-then-is_last
returns-then-is_last c =
    let next =
    one_next c.in_ok-line.field-0 c.in-Some.line c.loop-names.rest c.next.new.self c.in-Some.is c.in_ok-line.ensures.next in
    names_end c.args.text.now c.loop-names.names c.new-names.result c.of_any-rest.result c.loop-names.rest
    c.of_any-rest.ensures.read c.new-names.ensures c.loop-names.invariant
    (schedule_next c.loop-names.names c.in-Some.line c.loop-names.rest c.next.new.self next
    (sym c.is_last.ensures ∙ c.if-is_last.true))

pub loop-names-smaller : goal.loop-names-smaller
loop-names-smaller c =
    let long =
    ap length (one_next c.in_ok-line.field-0 c.in-Some.line c.loop-names.rest c.next.new.self c.in-Some.is
    c.in_ok-line.ensures.next) in
    omega (arith, long)

pub loop-names-preserved : goal.loop-names-preserved
loop-names-preserved c =
    let next =
    one_next c.in_ok-line.field-0 c.in-Some.line c.loop-names.rest c.next.new.self c.in-Some.is c.in_ok-line.ensures.next in
    names_goes c.loop-names.names c.add_name.new.names c.in-Some.line c.loop-names.rest c.next.new.self next
    (sym c.is_last.ensures ∙ c.if-is_last.false) c.in_ok-add_name.ensures
    ∙ c.loop-names.invariant

pub returns : goal.returns
returns c =
    let next = none_next c.in_ok-line.field-0 c.loop-names.rest c.next.new.self c.in_default.is c.in_ok-line.ensures.next in
    names_end c.args.text.now c.loop-names.names c.new-names.result c.of_any-rest.result c.loop-names.rest
    c.of_any-rest.ensures.read c.new-names.ensures c.loop-names.invariant
    (nothing_left c.loop-names.names c.loop-names.rest next)
