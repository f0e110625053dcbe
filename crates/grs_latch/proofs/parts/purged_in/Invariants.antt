use Rattle.std.proofs.Common.{◌≡◌, ◌+◌, ◌≤◌, ◌++◌, drop}
use Rattle.grs_latch.specs.Latches.{requests_of, purge_grants}
use Rattle.grs_latch.specs.Numbered.{lists_at}
use Rattle.grs_latch.proofs.parts.purged_in.Given as goal

abbrev pub invariant-loop-latch : goal.invariant-loop-latch
invariant-loop-latch g l =
    let lists = lists_at l.numbers (g.Q.Queues.elements l.queues) in
    record {
      few : l.purged.taken ≤ l.latch;
      taken : l.purged.taken + requests_of (drop l.latch lists) l.task ≡ requests_of lists l.task;
      grants :
          l.purged.grants ++ purge_grants l.set l.latch (drop l.latch lists) l.task
          ≡ purge_grants l.set 0 lists l.task;
    }
