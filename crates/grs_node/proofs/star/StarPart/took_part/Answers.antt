use Rattle.grs_node.proofs.Orderly.{part-came}
use Rattle.grs_node.proofs.star.StarPart.took_part.Goals as goal

pub take_up_all-requires : goal.take_up_all-requires
take_up_all-requires c =
    part-came _ c.args.self.now c.args.entry c.args.from c.args.records c.add.new.self c.self.view_is
    c.requires.orderly c.in_ok-add.ensures.ok
