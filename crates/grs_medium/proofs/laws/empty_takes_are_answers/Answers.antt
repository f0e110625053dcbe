use Rattle.grs_medium.proofs.TakeLaws.{take_finds_nothing}
use Rattle.grs_medium.proofs.laws.empty_takes_are_answers.Goals as goal

pub returns : goal.returns
returns c = take_finds_nothing
