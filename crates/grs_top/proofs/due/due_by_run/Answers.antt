use Rattle.grs_top.proofs.DueLemmas.{answered_due, refused_due, first_fault, ran_apart}
use Rattle.grs_top.specs.declared.words.Command.TheVariants.{Run}
use Rattle.grs_top.proofs.due.due_by_run.Goals as goal

pub returns-in-Ok : goal.returns-in-Ok
returns-in-Ok g c =
    answered_due Run c.args.text.now c.in-Ok.deck c.ran.result c.in-Ok.ensures.exact.0
    (ran_apart c.in-Ok.deck c.set_apart-bare.result.0 c.ran.result c.set_apart-bare.ensures.deck c.ran.ensures)

pub returns-in-Err : goal.returns-in-Err
returns-in-Err g c =
    refused_due Run c.args.text.now c.in-Err.error c.refused.result
    (first_fault c.args.text.now c.in-Err.error c.in-Err.ensures.exact) c.refused.ensures
