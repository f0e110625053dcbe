use Rattle.std.proofs.Common.{◌≡◌, refl, sym, ◌∙◌, rules}
use Rattle.std.proofs.lemmas.Result.{err_from_is_err_and}
use Rattle.grs_deck.proofs.Loop.{one_next, fails}
use Rattle.grs_deck.proofs.read.take_next.Goals as goal

pub returns-in_err-take_plain : goal.returns-in_err-take_plain
returns-in_err-take_plain c =
    let p = err_from_is_err_and c.from_residual.result c.from_residual.ensures.1 in
    rw (p.1, p.2) (fails c.in_err-take_plain.field-0.0 c.args.draft.now c.args.rest.now c.next_plain.new.rest
    c.in-Some.line _ c.in-Some.ensures.next c.in_err-take_plain.ensures refl)

pub returns-in-Some : goal.returns-in-Some
returns-in-Some c = (c.in-Some.line, c.in-Some.ensures.next, c.in_ok-take_plain.ensures)

pub returns-in_err-take_line : goal.returns-in_err-take_line
returns-in_err-take_line c =
    let p = err_from_is_err_and c.from_residual-in_err-take_line.result c.from_residual-in_err-take_line.ensures.1 in
    let same : c.next_plain.new.rest ≡ c.args.rest.now = search rules in
    rw (p.1, p.2) (fails c.in_err-take_line.field-0.0 c.args.draft.now c.args.rest.now c.next.new.self
    c.in-Some-2.line _
    (sym same
    ∙ one_next c.in_ok-line.field-0 c.in-Some-2.line c.next_plain.new.rest c.next.new.self c.in-Some-2.is
    c.in_ok-line.ensures)
    c.in_err-take_line.ensures refl)
