use Rattle.grs_world.proofs.gather.Managed.{words_managed}
use Rattle.grs_world.proofs.loss.Laws.{losses_words}
use Rattle.grs_world.proofs.laws.words_go_with_systems.Goals as goal

pub returns-clause-managed : goal.returns-clause-managed
returns-clause-managed c = words_managed

pub returns-clause-systems : goal.returns-clause-systems
returns-clause-systems c = losses_words
