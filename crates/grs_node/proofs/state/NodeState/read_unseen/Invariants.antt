use Rattle.std.proofs.Common.{◌≡◌, length}
use Rattle.grs_wire.specs.Unseen.{unseen}
use Rattle.grs_node.specs.Node.{read_entries}
use Rattle.grs_node.proofs.state.NodeState.read_unseen.Given as goal

abbrev pub invariant-loop-entry : goal.invariant-loop-entry
invariant-loop-entry l = record {
  step : read_entries l.deck l.self (unseen l.system l.rest)
      ≡ read_entries l.deck l.fn.self (unseen l.system l.entries);
  system : l.self.tasks.system ≡ l.fn.self.tasks.system;
}

abbrev pub decreases-loop-entry : goal.decreases-loop-entry
decreases-loop-entry l = length l.rest
