use Rattle.std.proofs.Common.{◌≡◌, true}
use Rattle.std.specs.Prelude.{nat_le}
use Rattle.std.specs.List.{range_with_len, list_all}
use Rattle.grs_base.specs.Limits.{last_number}
use Rattle.mode_migrate.proofs.roles.numbers.Given as goal

abbrev pub invariant-loop-i : goal.invariant-loop-i
invariant-loop-i l = (l.list ≡ range_with_len l.first l.i) × (list_all (λ n. nat_le n last_number) l.list ≡ true)
