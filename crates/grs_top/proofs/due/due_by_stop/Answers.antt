use Rattle.grs_top.proofs.DueLemmas.{stopped_due}
use Rattle.grs_top.proofs.due.due_by_stop.Goals as goal

pub returns-in-Some : goal.returns-in-Some
returns-in-Some c =
    stopped_due c.args.stop c.args.text.now c.in-Ok.deck (record { 0 = c.in-Some.system }) c.as_slice.result.now
    c.name.result.now c.events.result c.stop_replayed.result c.in-Ok.ensures.exact.0 c.as_slice.ensures c.name.ensures
    c.events.ensures c.in-Some.ensures.at c.stop_replayed.ensures
