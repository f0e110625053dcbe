use Rattle.std.proofs.Common.{◌∙◌}
use Rattle.grs_top.proofs.DueLemmas.{answered_due, refused_due, first_fault, apart}
use Rattle.grs_top.specs.Texts.{AreNoticed}
use Rattle.grs_top.specs.declared.words.Command.TheVariants.{Notices}
use Rattle.grs_top.proofs.due.due_by_notices.Goals as goal

pub returns-in-Ok : goal.returns-in-Ok
returns-in-Ok c =
    answered_due Notices c.args.text.now c.in-Ok.deck c.noticed.result c.in-Ok.ensures.exact.0
    (apart AreNoticed c.in-Ok.deck c.set_apart-bare.result.0 c.as_slice.result.now c.noticed.result
    c.set_apart-bare.ensures.deck (c.as_slice.ensures ∙ c.set_apart-bare.ensures.events) c.noticed.ensures)

pub returns-in-Err : goal.returns-in-Err
returns-in-Err c =
    refused_due Notices c.args.text.now c.in-Err.error c.refused.result
    (first_fault c.args.text.now c.in-Err.error c.in-Err.ensures.exact) c.refused.ensures
