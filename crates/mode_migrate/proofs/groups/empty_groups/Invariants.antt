use Rattle.std.proofs.Common.{◌≡◌, [], map}
use Rattle.std.specs.List.{range_with_len}
use Rattle.mode_migrate.specs.Migrate.{rows_in}
use Rattle.mode_migrate.proofs.groups.empty_groups.Given as goal

abbrev pub invariant-loop : goal.invariant-loop
invariant-loop l = l.groups.items ≡ map (λ e. rows_in l.entries e []) (range_with_len 0 l.counter)
