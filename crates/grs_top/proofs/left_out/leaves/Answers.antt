use Rattle.std.proofs.Common.{◌≡◌, true, List, subst, sym}
use Rattle.std.specs.Prelude.{slice_get}
use Rattle.grs_node.specs.Node.{NodeState}
use Rattle.grs_top.specs.LeftOut.{IsNothingAt, is_idle_if}
use Rattle.grs_top.proofs.LeftOut.{nothing-leaves}
use Rattle.grs_top.proofs.left_out.leaves.Goals as goal

pub is_nothing_among-requires : goal.is_nothing_among-requires
is_nothing_among-requires c = λ idle.
    subst (λ (ns : List NodeState). is_idle_if (slice_get ns c.args.event.now.system.0) ≡ true)
    (sym c.nodes.ensures.nodes) (c.requires idle)

pub returns : goal.returns
returns c = λ none.
    nothing-leaves c.args.world.now.deck c.args.world.now.world c.args.event.now
    (subst (λ (ns : List NodeState). IsNothingAt (slice_get ns c.args.event.now.system.0) c.args.event.now.choice)
    c.nodes.ensures.nodes (c.is_nothing_among.ensures none))
