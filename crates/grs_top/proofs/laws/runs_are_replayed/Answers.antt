use Rattle.grs_top.proofs.Replayed.{runs_are_replayed}
use Rattle.grs_top.proofs.laws.runs_are_replayed.Goals as goal

pub returns : goal.returns
returns c =
    runs_are_replayed c.one_deck.ensures.whole c.doers_are_of_deck.ensures c.schedules_read_back.ensures
