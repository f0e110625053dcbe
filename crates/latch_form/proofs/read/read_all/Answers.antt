use Rattle.std.proofs.lemmas.Result.{err_from_is_err_and}
use Rattle.latch_form.proofs.Loop.{reading_ok, reading_err}
use Rattle.latch_form.proofs.read.read_all.Goals as goal

pub returns-in_err-draft : goal.returns-in_err-draft
returns-in_err-draft c =
    let p = err_from_is_err_and c.from_residual-in_err-draft.result c.from_residual-in_err-draft.ensures.1 in
    rw (p.1, p.2) (reading_err c.args.text.now c.in_ok-lines.lines c.in_err-draft.field-0.0 c.in_ok-lines.ensures.read
    c.in_err-draft.ensures)

pub returns : goal.returns
returns c =
    reading_ok c.args.text.now c.in_ok-lines.lines c.in_ok-draft.draft c.in_ok-lines.ensures.read c.in_ok-draft.ensures
