use Rattle.std.proofs.Common.{◌≡◌}
use Rattle.grs_workers.proofs.agenda.Agenda.find.Given as goal

abbrev pub invariant-loop : goal.invariant-loop
invariant-loop l = record {
  deck : l.node.deck ≡ l.fn.node.deck;
  node : l.node.node ≡ l.fn.node.node;
  log : l.node.log ≡ l.fn.node.log;
}
