use Rattle.std.proofs.Common.{◌∙◌}
use Rattle.grs_top.proofs.DueLemmas.{noticed_of}
use Rattle.grs_top.proofs.due.noticed.Goals as goal

pub returns : goal.returns
returns c =
    noticed_of c.args.deck.now c.args.events.now c.in_ok-past.past.hist c.as_slice.result.now c.in_ok-past.past.ended
    c.as_slice-2.result.now c.told.result.out c.told.result.status c.requires c.runs_are_sound.ensures
    c.codes_tell_notices.ensures c.in_ok-past.ensures.hist c.in_ok-past.ensures.ended c.as_slice.ensures
    c.as_slice-2.ensures (c.told.ensures.out ∙ c.in_ok-out.ensures.told) c.told.ensures.status
