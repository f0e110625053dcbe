use Rattle.std.proofs.Common.{◌≡◌, true, List, subst}
use Rattle.std.specs.Prelude.{slice_get}
use Rattle.grs_node.specs.Node.{NodeState}
use Rattle.grs_top.specs.LeftOut.{is_idle_if}
use Rattle.grs_top.proofs.left_out.is_idle_at.Goals as goal

pub returns : goal.returns
returns c = λ idle.
    subst (λ (ns : List NodeState). is_idle_if (slice_get ns c.args.system.0) ≡ true) c.nodes.ensures.nodes
    (c.is_idle_among.ensures idle)
