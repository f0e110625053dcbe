use Rattle.grs_world.proofs.gather.Acts.{acts_without, known_gone}
use Rattle.grs_world.proofs.laws.nothing_is_kept_of_removed.Goals as goal

pub returns-clause-known : goal.returns-clause-known
returns-clause-known c = known_gone

pub returns-clause-acting : goal.returns-clause-acting
returns-clause-acting c = acts_without
