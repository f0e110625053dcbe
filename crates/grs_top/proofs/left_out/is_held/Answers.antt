use Rattle.std.proofs.Common.{ap, sym, ◌∙◌}
use Rattle.grs_top.specs.LeftOut.{is_over}
use Rattle.grs_top.proofs.LeftOut.{over-goes, over-sends}
use Rattle.grs_top.proofs.left_out.is_held.Goals as goal

pub returns-clause-goes : goal.returns-clause-goes
returns-clause-goes c = λ over.
    over-goes c.args.node.now.node c.args.task (ap is_over (sym c.task_end.ensures) ∙ sym c.is_over.ensures ∙ over)

pub returns-clause-sends : goal.returns-clause-sends
returns-clause-sends c = λ over.
    over-sends c.args.node.now.node c.args.task (ap is_over (sym c.task_end.ensures) ∙ sym c.is_over.ensures ∙ over)
