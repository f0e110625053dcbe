use Rattle.std.proofs.Common.{◌≡◌, length}
use Rattle.system_purge.specs.Purge.{tell_each}
use Rattle.system_purge.proofs.removal.tell_each.Given as goal

abbrev pub invariant-loop-owner : goal.invariant-loop-owner
invariant-loop-owner l = record {
  step : tell_each l.tasks l.rest ≡ tell_each l.fn.tasks l.owners;
  system : l.tasks.system ≡ l.fn.tasks.system;
  count : length l.tasks.tasks ≡ length l.fn.tasks.tasks;
}

abbrev pub decreases-loop-owner : goal.decreases-loop-owner
decreases-loop-owner l = length l.rest
