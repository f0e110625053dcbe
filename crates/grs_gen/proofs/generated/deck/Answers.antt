use Rattle.grs_gen.proofs.DeckLaws.{good}
use Rattle.grs_gen.proofs.generated.deck.Goals as goal

pub returns-clause-good : goal.returns-clause-good
returns-clause-good c = good c.args.n c.requires c.deck_of.result c.deck_of.ensures
