use Rattle.std.proofs.Common.{◌≡◌, ◌++◌, map}
use Rattle.grs_workers.proofs.run.apart.Given as goal

abbrev pub invariant-loop-worker : goal.invariant-loop-worker
invariant-loop-worker l = record {
  nodes : l.nodes ++ map (λ w. w.node) l.worker-iterator.rest.items ≡ map (λ w. w.node) l.fn.workers.items;
  seats : l.seats ++ map (λ w. w.seat) l.worker-iterator.rest.items ≡ map (λ w. w.seat) l.fn.workers.items;
}
