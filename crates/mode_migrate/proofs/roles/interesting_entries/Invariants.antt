use Rattle.std.proofs.Common.{◌≡◌}
use Rattle.std.specs.Prelude.{filter}
use Rattle.std.specs.List.{range_with_len}
use Rattle.mode_migrate.specs.Groups.{group_at, is_among}
use Rattle.mode_migrate.proofs.roles.interesting_entries.Given as goal

abbrev pub invariant-loop-entry : goal.invariant-loop-entry
invariant-loop-entry l =
    l.interest ≡ filter (λ e. is_among (group_at l.groups.items e) l.system.0) (range_with_len 0 l.entry)
