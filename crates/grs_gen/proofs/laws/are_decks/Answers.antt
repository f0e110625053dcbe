use Rattle.grs_gen.proofs.DeckLaws.{is_deck}
use Rattle.grs_gen.proofs.laws.are_decks.Goals as goal

pub returns : goal.returns
returns c = is_deck
