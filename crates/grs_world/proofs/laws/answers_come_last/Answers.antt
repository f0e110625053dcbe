use Rattle.grs_world.proofs.run.Laps.{processed_last}
use Rattle.grs_world.proofs.run.LapsTold.{answered_last}
use Rattle.grs_world.proofs.laws.answers_come_last.Goals as goal

pub returns-clause-given : goal.returns-clause-given
returns-clause-given c = processed_last

pub returns-clause-told : goal.returns-clause-told
returns-clause-told c = answered_last
