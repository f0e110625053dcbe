use Rattle.std.proofs.Common.{subst, sym}
use Rattle.grs_top.specs.LeftOut.{ComesToNothing}
use Rattle.grs_top.proofs.left_out.comes_to_nothing.Goals as goal

pub returns-in-Task : goal.returns-in-Task
returns-in-Task c = λ is.
    subst (ComesToNothing c.args.node.now.node) (sym c.in-Task.is) (c.goes_nowhere.ensures is)

pub returns-in-Send : goal.returns-in-Send
returns-in-Send c = λ is.
    subst (ComesToNothing c.args.node.now.node) (sym c.in-Send.is) (c.sends_nothing.ensures is)
