use Rattle.grs_world.proofs.Common.{◌∙◌, ap}
use Rattle.grs_node.specs.Log.{shown, finished}
use Rattle.grs_world.proofs.code.Logged.{shown-node, shown-done, shown-some}
use Rattle.grs_world.proofs.chosen.finished.Goals as goal

pub take_done-requires : goal.take_done-requires
take_done-requires c =
    shown-some c.args.node.now c.finish.new.self c.args.choice.now c.args.reply
    (c.in_ok-finish.ensures.step ∙ ap (finished (shown c.args.node.now) c.args.choice.now) c.journalled.ensures)

pub returns-clause-ends : goal.returns-clause-ends
returns-clause-ends c =
    let is =
    c.in_ok-finish.ensures.step ∙ ap (finished (shown c.args.node.now) c.args.choice.now) c.journalled.ensures in (
      c.take_done.ensures.node ∙ shown-node c.args.node.now c.finish.new.self c.args.choice.now c.args.reply is,
      c.take_done.ensures.done ∙ shown-done c.args.node.now c.finish.new.self c.args.choice.now c.args.reply is,
    )
