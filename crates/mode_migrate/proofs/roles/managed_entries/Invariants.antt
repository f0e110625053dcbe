use Rattle.std.proofs.Common.{◌≡◌}
use Rattle.std.specs.Prelude.{filter}
use Rattle.std.specs.List.{range_with_len}
use Rattle.grs_wire.specs.LockWords.{is_manager}
use Rattle.mode_migrate.specs.Groups.{group_at, manager_of}
use Rattle.mode_migrate.proofs.roles.managed_entries.Given as goal

abbrev pub invariant-loop-entry : goal.invariant-loop-entry
invariant-loop-entry l =
    l.managed ≡ filter (λ e. is_manager (manager_of (group_at l.groups.items e)) l.system) (range_with_len 0 l.entry)
