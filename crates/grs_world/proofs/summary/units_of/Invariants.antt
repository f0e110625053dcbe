use Rattle.grs_world.proofs.Common.{◌++◌, ◌≡◌, drop, nodes_of, units_of}
use Rattle.grs_world.proofs.summary.units_of.Given as goal

abbrev pub invariant-loop-node : goal.invariant-loop-node
invariant-loop-node l = l.units ++ units_of (nodes_of (drop l.node-index l.nodes)) ≡ units_of (nodes_of l.nodes)
