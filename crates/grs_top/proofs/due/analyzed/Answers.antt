use Rattle.std.proofs.Common.{◌∙◌}
use Rattle.grs_top.proofs.DueLemmas.{analyzed_of, rows_apart}
use Rattle.grs_top.proofs.due.analyzed.Goals as goal

pub returns : goal.returns
returns c =
    analyzed_of c.args.deck.now c.args.events.now c.in_ok-past.past.hist c.as_slice.result.now c.in_ok-queues.queues
    c.in_ok-past.past.ended c.as_slice-2.result.now c.told.result.out c.told.result.status c.requires
    c.runs_are_sound.ensures c.in_ok-past.ensures.hist c.in_ok-past.ensures.ended c.as_slice.ensures c.as_slice-2.ensures
    c.in_ok-queues.ensures (c.told.ensures.out ∙ c.in_ok-out.ensures) c.told.ensures.status

pub analysis_text-requires : goal.analysis_text-requires
analysis_text-requires c =
    rows_apart c.args.deck.now.limit c.as_slice.result.now c.in_ok-queues.queues c.lists_are_apart.ensures
    c.in_ok-queues.ensures
