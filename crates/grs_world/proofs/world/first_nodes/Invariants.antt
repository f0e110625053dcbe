use Rattle.grs_world.proofs.Common.{◌≡◌, first_nodes, length, nodes_of, take}
use Rattle.grs_world.specs.Running.{AreOf, AreNumbered}
use Rattle.grs_world.proofs.world.first_nodes.Given as goal

abbrev pub invariant-loop-place : goal.invariant-loop-place
invariant-loop-place l = record {
  nodes : nodes_of l.nodes ≡ first_nodes l.deck 0 (take l.place l.deck.systems);
  deck : AreOf l.deck l.nodes;
  numbers : AreNumbered 0 l.nodes;
  count : length l.nodes ≡ l.place;
}
