use Rattle.grs_medium.proofs.TurnLaws.{turn_is_refused, turn_is_served}
use Rattle.grs_medium.proofs.laws.turn_refusals_are_answers.Goals as goal

pub returns-clause-refused : goal.returns-clause-refused
returns-clause-refused c = turn_is_refused

pub returns-clause-served : goal.returns-clause-served
returns-clause-served c = turn_is_served
