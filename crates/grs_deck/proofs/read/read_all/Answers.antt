use Rattle.std.proofs.lemmas.Result.{err_from_is_err_and}
use Rattle.grs_deck.proofs.Opening.{judged_ok, judged_err}
use Rattle.grs_deck.proofs.read.read_all.Goals as goal

pub returns-in_err-draft : goal.returns-in_err-draft
returns-in_err-draft c =
    let p = err_from_is_err_and c.from_residual-in_err-draft.result c.from_residual-in_err-draft.ensures.1 in
    rw (p.1, p.2) (judged_err c.args.text.now c.in_ok-lines.lines c.new-3.result c.new-2.result c.in_err-draft.field-0.0
    c.in_ok-lines.ensures.read c.new-2.ensures c.new-3.ensures c.in_err-draft.ensures)

pub returns : goal.returns
returns c =
    judged_ok c.args.text.now c.in_ok-lines.lines c.new-3.result c.new-2.result c.in_ok-draft.draft c.end.result
    c.in_ok-lines.ensures.read c.new-2.ensures c.new-3.ensures c.in_ok-draft.ensures c.end.ensures
