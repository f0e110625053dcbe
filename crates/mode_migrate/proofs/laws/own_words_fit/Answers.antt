use Rattle.mode_migrate.proofs.WordLaws.{own_words_fit}
use Rattle.mode_migrate.proofs.laws.own_words_fit.Goals as goal

pub returns : goal.returns
returns c = own_words_fit
