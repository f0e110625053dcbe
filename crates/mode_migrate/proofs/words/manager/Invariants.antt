use Rattle.std.proofs.Common.{◌≡◌}
use Rattle.lock_structure.specs.Least.{least_below}
use Rattle.mode_migrate.specs.Groups.{is_among}
use Rattle.mode_migrate.proofs.words.manager.Given as goal

abbrev pub invariant-loop-s : goal.invariant-loop-s
invariant-loop-s l = l.least ≡ least_below l.s (is_among l.rows)
