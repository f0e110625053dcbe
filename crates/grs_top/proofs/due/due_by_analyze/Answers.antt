use Rattle.std.proofs.Common.{◌∙◌}
use Rattle.grs_top.proofs.DueLemmas.{answered_due, refused_due, first_fault, apart}
use Rattle.grs_top.specs.Texts.{IsAnalyzed}
use Rattle.grs_top.specs.declared.words.Command.TheVariants.{Analyze}
use Rattle.grs_top.proofs.due.due_by_analyze.Goals as goal

pub returns-in-Ok : goal.returns-in-Ok
returns-in-Ok c =
    answered_due Analyze c.args.text.now c.in-Ok.deck c.analyzed.result c.in-Ok.ensures.exact.0
    (apart IsAnalyzed c.in-Ok.deck c.set_apart-bare.result.0 c.as_slice.result.now c.analyzed.result
    c.set_apart-bare.ensures.deck (c.as_slice.ensures ∙ c.set_apart-bare.ensures.events) c.analyzed.ensures)

pub returns-in-Err : goal.returns-in-Err
returns-in-Err c =
    refused_due Analyze c.args.text.now c.in-Err.error c.refused.result
    (first_fault c.args.text.now c.in-Err.error c.in-Err.ensures.exact) c.refused.ensures
