use Rattle.grs_top.proofs.Complete.{whole}
use Rattle.grs_top.proofs.laws.whole_unless_memory.Goals as goal

pub returns : goal.returns
returns c =
    whole c.one_deck.ensures.one c.one_deck.ensures.one_fault c.one_deck.ensures.spelled c.one_list_of_calls.ensures.one
    c.one_list_of_calls.ensures.one_fault c.one_list_of_calls.ensures.spelled
