use Rattle.grs_top.proofs.DueLemmas.{answered_due, refused_due, first_call_fault}
use Rattle.grs_top.specs.declared.words.Command.TheVariants.{Latch}
use Rattle.grs_top.proofs.due.due_by_latch.Goals as goal

pub returns-in-Ok : goal.returns-in-Ok
returns-in-Ok c =
    answered_due Latch c.args.text.now c.in-Ok.calls c.latched.result c.in-Ok.ensures.exact.0
    (rw c.as_slice.ensures at c.latched.ensures)

pub returns-in-Err : goal.returns-in-Err
returns-in-Err c =
    refused_due Latch c.args.text.now c.in-Err.error c.refused.result
    (first_call_fault c.args.text.now c.in-Err.error c.in-Err.ensures.exact) c.refused.ensures

pub latched-requires : goal.latched-requires
latched-requires c = rw c.as_slice.ensures c.in-Ok.ensures.whole
