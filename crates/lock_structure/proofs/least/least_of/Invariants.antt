use Rattle.std.proofs.Common.{◌≡◌, ◌≤◌}
use Rattle.grs_wire.specs.LockWords.{manager_number}
use Rattle.grs_wire.specs.Masks.{has}
use Rattle.lock_structure.specs.Least.{least_below}
use Rattle.lock_structure.proofs.least.least_of.Given as goal

abbrev pub invariant-loop-s : goal.invariant-loop-s
invariant-loop-s l = (l.least ≡ least_below l.s (has l.set)) × (manager_number l.least ≤ l.s)
