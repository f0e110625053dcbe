use Rattle.std.proofs.Common.{◌≡◌}
use Rattle.grs_workers.proofs.agenda.Agenda.command.Given as goal

abbrev pub invariant-loop-place : goal.invariant-loop-place
invariant-loop-place l = record {
  deck : l.node.deck ≡ l.fn.node.deck;
  node : l.node.node ≡ l.fn.node.node;
  log : l.node.log ≡ l.fn.node.log;
}
