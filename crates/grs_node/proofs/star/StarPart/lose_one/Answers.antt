use Rattle.std.proofs.Common.{sym, ap, subst}
use Rattle.grs_node.specs.Removal.{Standing, standing, IsOrderly}
use Rattle.grs_node.proofs.Orderly.{lost-orderly}
use Rattle.grs_node.proofs.star.StarPart.lose_one.Goals as goal

pub take_up_all-requires : goal.take_up_all-requires
take_up_all-requires c =
    subst IsOrderly (sym (ap (λ (x : Standing). x.part) c.in_ok-lose.ensures.step))
    (lost-orderly (standing c.args.tasks.now c.args.self.now) c.args.system c.requires.orderly)
