use Rattle.grs_deck.proofs.SpellsLaws.{one}
use Rattle.grs_deck.proofs.First.{either, one_fault, spelled_right}
use Rattle.grs_deck.proofs.WholeLaws.{spelled_whole}
use Rattle.grs_deck.proofs.laws.one_deck.Goals as goal

pub returns-clause-either : goal.returns-clause-either
returns-clause-either c = either

pub returns-clause-one : goal.returns-clause-one
returns-clause-one c = one

pub returns-clause-one_fault : goal.returns-clause-one_fault
returns-clause-one_fault c = one_fault

pub returns-clause-spelled : goal.returns-clause-spelled
returns-clause-spelled c = spelled_right

pub returns-clause-whole : goal.returns-clause-whole
returns-clause-whole c = spelled_whole
