use Rattle.grs_top.proofs.DueLemmas.{answered_due, refused_due, first_fault}
use Rattle.grs_top.specs.declared.words.Command.TheVariants.{Lists}
use Rattle.grs_top.proofs.due.due_by_lists.Goals as goal

pub returns-in-Ok : goal.returns-in-Ok
returns-in-Ok c =
    answered_due Lists c.args.text.now c.in-Ok.deck c.listed.result c.in-Ok.ensures.exact.0 c.listed.ensures

pub returns-in-Err : goal.returns-in-Err
returns-in-Err c =
    refused_due Lists c.args.text.now c.in-Err.error c.refused.result
    (first_fault c.args.text.now c.in-Err.error c.in-Err.ensures.exact) c.refused.ensures
