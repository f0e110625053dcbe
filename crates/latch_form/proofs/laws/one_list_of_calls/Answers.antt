use Rattle.latch_form.proofs.First.{either, one, one_fault, spelled_right}
use Rattle.latch_form.proofs.laws.one_list_of_calls.Goals as goal

pub returns-clause-either : goal.returns-clause-either
returns-clause-either c = either

pub returns-clause-one : goal.returns-clause-one
returns-clause-one c = one

pub returns-clause-one_fault : goal.returns-clause-one_fault
returns-clause-one_fault c = one_fault

pub returns-clause-spelled : goal.returns-clause-spelled
returns-clause-spelled c = spelled_right
