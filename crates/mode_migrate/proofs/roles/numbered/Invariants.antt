use Rattle.std.proofs.Common.{◌≡◌, ◌≤◌, ◌+◌, ◌++◌, true}
use Rattle.grs_base.specs.Limits.{last_number}
use Rattle.mode_migrate.specs.Migrate.{numbered_from, has_small_ranks}
use Rattle.mode_migrate.proofs.roles.numbered.Given as goal

abbrev pub invariant-loop-row : goal.invariant-loop-row
invariant-loop-row l =
    (l.part ++ numbered_from l.next l.row-iterator.rest.items ≡ numbered_from 1 l.fn.rows)
    × (l.next ≤ last_number + 1)
    × (has_small_ranks l.part ≡ true)
