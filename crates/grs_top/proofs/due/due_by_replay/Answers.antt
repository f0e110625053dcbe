use Rattle.grs_top.proofs.DueLemmas.{answered_due, refused_due, first_fault, apart}
use Rattle.grs_top.specs.Texts.{IsReported}
use Rattle.grs_top.specs.declared.words.Command.TheVariants.{Replay}
use Rattle.grs_top.proofs.due.due_by_replay.Goals as goal

pub returns-in-Ok : goal.returns-in-Ok
returns-in-Ok c =
    answered_due Replay c.args.text.now c.in-Ok.deck c.replayed.result c.in-Ok.ensures.exact.0
    (apart IsReported c.in-Ok.deck c.set_apart-bare.result.0 c.set_apart-bare.result.1 c.replayed.result c.set_apart-bare.ensures.deck
    c.set_apart-bare.ensures.events c.replayed.ensures)

pub returns-in-Err : goal.returns-in-Err
returns-in-Err c =
    refused_due Replay c.args.text.now c.in-Err.error c.refused.result
    (first_fault c.args.text.now c.in-Err.error c.in-Err.ensures.exact) c.refused.ensures
