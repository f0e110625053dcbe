use Rattle.grs_top.proofs.DueLemmas.{stopped_apart}
use Rattle.grs_top.proofs.due.stop_replayed.Goals as goal

pub returns : goal.returns
returns c =
    stopped_apart c.args.deck c.set_apart-bare.result.0 c.set_apart-bare.result.1 c.as_slice.result.now c.in_ok-left.left
    c.args.system c.args.events c.replayed.result c.set_apart-bare.ensures.deck c.set_apart-bare.ensures.events
    c.as_slice.ensures c.in_ok-left.ensures c.replayed.ensures
