use Rattle.std.proofs.Common.{rules}
use Rattle.std.proofs.lemmas.Result.{err_from_is_err_and}
use Rattle.deck_form.proofs.Events.{no_tokens, no_word, more_words, one_word}
use Rattle.deck_form.proofs.event.operand_at.Goals as goal

pub returns-then-is_empty : goal.returns-then-is_empty
returns-then-is_empty c = no_tokens c.args.ts.now (search rules)

pub returns-in_err-word : goal.returns-in_err-word
returns-in_err-word c =
    let p = err_from_is_err_and c.from_residual.result c.from_residual.ensures.1 in
    rw p.1 (no_word c.args.ts.now c.in_err-word.ensures (search rules))

pub returns-in_err-end_at : goal.returns-in_err-end_at
returns-in_err-end_at c =
    let p = err_from_is_err_and c.from_residual-in_err-end_at.result c.from_residual-in_err-end_at.ensures.1 in
    rw p.1 (more_words c.args.ts.now c.in_ok-word.word.now c.in_ok-word.rest.now c.in_ok-word.ensures
    c.in_err-end_at.ensures)

pub returns : goal.returns
returns c =
    one_word c.args.ts.now c.in_ok-word.word.now c.in_ok-word.rest.now c.in_ok-word.ensures c.in_ok-end_at.ensures
