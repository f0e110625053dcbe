use Rattle.std.proofs.Common.{◌≡◌, Some, None}
use Rattle.grs_base.specs.Limits.{most_systems}
use Rattle.mode_migrate.specs.Migrate.{has_elements}
use Rattle.lock_structure.proofs.LeastLaws.{least-passes, nobody-below, none-passes}
use Rattle.mode_migrate.proofs.laws.least_manages.Goals as goal

pub returns : goal.returns
returns c = λ entries e rows. (
  λ s is. (
    (least-passes most_systems (has_elements entries e rows) s is).1,
    nobody-below most_systems (has_elements entries e rows) s is,
  ),
  none-passes most_systems (has_elements entries e rows),
)
