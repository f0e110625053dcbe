use Rattle.std.proofs.Common.{◌≡◌, length}
use Rattle.mode_migrate.specs.Groups.{groups_of}
use Rattle.mode_migrate.proofs.GroupLaws.{with_rows}
use Rattle.mode_migrate.proofs.groups.grouped.Given as goal

abbrev pub invariant-loop-row : goal.invariant-loop-row
invariant-loop-row l =
    (with_rows l.entries l.row-iterator.rest.items l.groups.items ≡ groups_of l.entries l.fn.rows)
    × (length l.groups.items ≡ l.entries)
