use Rattle.grs_top.proofs.DueLemmas.{run_due}
use Rattle.grs_top.proofs.due.ran.Goals as goal

pub returns : goal.returns
returns g c =
    run_due c.args.deck.now c.in_ok-ran.ran.medium.state c.in_ok-ran.ran.journal c.as_slice.result.now
    c.in_ok-ran.ran.nodes c.in_ok-seen.seen c.report_due.result c.requires
    c.runs_are_sound.ensures
    c.passed_is_told.ensures c.removed_tell_nothing.ensures c.merged_runs.ensures c.merged_rests.ensures c.rests_in_the_end.ensures
    c.in_ok-ran.ensures.ran c.in_ok-ran.ensures.last c.as_slice.ensures
    c.in_ok-seen.ensures.events c.in_ok-seen.ensures.seen c.report_due.ensures.out c.report_due.ensures.status
