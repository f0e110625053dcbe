use Rattle.std.proofs.Common.{ap, ◌∙◌}
use Rattle.system_purge.specs.Gathers.{is_complete}
use Rattle.grs_node.specs.Star.{StarPart}
use Rattle.grs_node.proofs.Orderly.{free-complete}
use Rattle.grs_node.proofs.star.StarPart.take_up_if.Goals as goal

pub take_up-requires-clause-count : goal.take_up-requires-clause-count
take_up-requires-clause-count c = c.requires.orderly.count

pub take_up-requires-clause-free : goal.take_up-requires-clause-free
take_up-requires-clause-free c =
    free-complete c.args.self.now c.args.entry c.requires.orderly c.is_complete.result
    (c.is_complete.ensures ∙ ap (λ (p : StarPart). is_complete p.gathers c.args.entry) c.self.view_is)
    c.if-is_complete.true
