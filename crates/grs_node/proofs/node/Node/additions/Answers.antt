use Rattle.grs_base.specs.Limits.{most_additions}
use Rattle.grs_node.proofs.Places.{few_first}
use Rattle.grs_node.proofs.node.Node.additions.Goals as goal

pub returns-clause-few : goal.returns-clause-few
returns-clause-few c = few_first c.additions.result most_additions c.self.inside.state.outbox c.additions.ensures
