use Rattle.std.proofs.Common.{◌≡◌}
use Rattle.grs_workers.proofs.agenda.Agenda.leave.Given as goal

abbrev pub invariant-loop-entry : goal.invariant-loop-entry
invariant-loop-entry l = record {
  deck : l.node.deck ≡ l.fn.node.deck;
  node : l.node.node ≡ l.fn.node.node;
  log : l.node.log ≡ l.fn.node.log;
}
