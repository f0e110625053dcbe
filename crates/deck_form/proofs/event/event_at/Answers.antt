use Rattle.std.proofs.lemmas.Result.{err_from_is_err_and}
use Rattle.deck_form.specs.Event.{event_word}
use Rattle.deck_form.proofs.Events.{event_alone, event_of_system, event_of_none, event_by_words}
use Rattle.deck_form.proofs.event.event_at.Goals as goal

pub returns-in_err-system : goal.returns-in_err-system
returns-in_err-system c =
    let p = err_from_is_err_and c.from_residual.result c.from_residual.ensures.1 in
    rw p.1 (event_alone c.args.entries c.args.ts.now c.in_err-system.ensures)

pub returns-in_err-word : goal.returns-in_err-word
returns-in_err-word c =
    let p = err_from_is_err_and c.from_residual-in_err-word.result c.from_residual-in_err-word.ensures.1 in
    rw p.1 (event_of_system c.args.entries c.args.ts.now c.in_ok-system.system.now c.in_ok-system.front.now
    c.in_ok-system.ensures c.in_err-word.ensures)

pub returns-in_err-operand : goal.returns-in_err-operand
returns-in_err-operand c =
    let p = err_from_is_err_and c.from_residual-in_err-operand.result c.from_residual-in_err-operand.ensures.1 in
    rw p.1 (event_of_none c.args.entries c.args.ts.now c.in_ok-system.system.now c.in_ok-system.front.now
    c.in_ok-word.word.now c.in_ok-word.behind.now c.in_ok-system.ensures c.in_ok-word.ensures
    (c.in_err-operand.ensures c.args.entries (event_word c.in_ok-word.word.now)))

pub returns : goal.returns
returns c =
    rw (event_by_words c.args.entries c.args.ts.now c.in_ok-system.system.now c.in_ok-system.front.now
    c.in_ok-word.word.now c.in_ok-word.behind.now c.in_ok-operand.operand c.in_ok-system.ensures c.in_ok-word.ensures
    c.in_ok-operand.ensures)
    c.event_of.ensures
