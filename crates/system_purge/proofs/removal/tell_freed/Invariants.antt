use Rattle.std.proofs.Common.{◌≡◌, length}
use Rattle.system_purge.specs.Purge.{tell_freed}
use Rattle.system_purge.proofs.removal.tell_freed.Given as goal

abbrev pub invariant-loop-row : goal.invariant-loop-row
invariant-loop-row l = record {
  step : tell_freed l.tasks l.system.0 l.rest ≡ tell_freed l.fn.tasks l.system.0 l.rows;
  system : l.tasks.system ≡ l.fn.tasks.system;
  count : length l.tasks.tasks ≡ length l.fn.tasks.tasks;
}

abbrev pub decreases-loop-row : goal.decreases-loop-row
decreases-loop-row l = length l.rest
