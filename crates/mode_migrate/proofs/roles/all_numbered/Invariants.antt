use Rattle.std.proofs.Common.{◌≡◌, ◌++◌, true, map}
use Rattle.std.specs.List.{list_all}
use Rattle.mode_migrate.specs.Migrate.{numbered_from, has_small_ranks}
use Rattle.mode_migrate.proofs.roles.all_numbered.Given as goal

abbrev pub invariant-loop-rows : goal.invariant-loop-rows
invariant-loop-rows l =
    (l.parts ++ map (numbered_from 1) l.rows-iterator.rest.items ≡ map (numbered_from 1) l.fn.groups.items)
    × (list_all has_small_ranks l.parts ≡ true)
