use Rattle.grs_top.proofs.DueLemmas.{replay_due}
use Rattle.grs_top.proofs.due.replayed.Goals as goal

pub returns : goal.returns
returns c =
    replay_due c.args.deck.now c.args.events c.in_ok-seen.seen c.report_due.result c.requires c.runs_are_sound.ensures
    c.passed_is_told.ensures c.removed_tell_nothing.ensures
    c.in_ok-seen.ensures c.report_due.ensures.out c.report_due.ensures.status
