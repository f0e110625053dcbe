use Rattle.deck_form.proofs.Again.{form_again}
use Rattle.deck_form.proofs.Unknown.{one_spelled, either, apart, one_kind}
use Rattle.deck_form.proofs.laws.one_statement.Goals as goal

pub returns-clause-read : goal.returns-clause-read
returns-clause-read c = form_again

pub returns-clause-one : goal.returns-clause-one
returns-clause-one c = one_spelled

pub returns-clause-either : goal.returns-clause-either
returns-clause-either c = either

pub returns-clause-apart : goal.returns-clause-apart
returns-clause-apart c = apart

pub returns-clause-kind : goal.returns-clause-kind
returns-clause-kind c = one_kind
