use Rattle.grs_world.proofs.gather.way.Run.{parts_run, roles_run}
use Rattle.grs_world.proofs.laws.parts_are_on_the_way.Goals as goal

pub returns-clause-roles : goal.returns-clause-roles
returns-clause-roles c = roles_run

pub returns-clause-parts : goal.returns-clause-parts
returns-clause-parts c = parts_run
