use Rattle.grs_top.proofs.ReadBack.{read_back}
use Rattle.grs_top.proofs.laws.schedules_read_back.Goals as goal

pub returns : goal.returns
returns c = read_back c.one_deck.ensures.whole c.printed_events.ensures.again
