use Rattle.mode_migrate.proofs.WordLaws.{interest-word, manager-word}
use Rattle.mode_migrate.proofs.laws.words_say.Goals as goal

pub returns : goal.returns
returns c = λ entries e rows. (interest-word entries e rows, manager-word entries e rows)
