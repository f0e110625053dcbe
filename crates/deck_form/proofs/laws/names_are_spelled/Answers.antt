use Rattle.deck_form.proofs.Systems.{spelled_name, given_name}
use Rattle.deck_form.proofs.laws.names_are_spelled.Goals as goal

pub returns-clause-spelled : goal.returns-clause-spelled
returns-clause-spelled c = spelled_name

pub returns-clause-given : goal.returns-clause-given
returns-clause-given c = given_name
