use Rattle.std.proofs.Common.{sym, ap, subst}
use Rattle.grs_node.specs.Removal.{Standing, standing, IsOrderly, members}
use Rattle.grs_node.proofs.Orderly.{lost-each-orderly}
use Rattle.grs_node.proofs.star.StarPart.lose_all.Goals as goal

pub take_up_all-requires : goal.take_up_all-requires
take_up_all-requires c =
    subst IsOrderly (sym (ap (λ (x : Standing). x.part) c.in_ok-lose_each.ensures.step))
    (lost-each-orderly (standing c.args.tasks.now c.args.self.now) (members c.args.systems) c.requires)
