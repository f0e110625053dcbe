use Rattle.std.proofs.Common.{◌≡◌, ◌<◌}
use Rattle.mode_migrate.specs.Migrate.{set_below}
use Rattle.mode_migrate.specs.Groups.{is_among}
use Rattle.mode_migrate.proofs.words.interest.Given as goal

abbrev pub invariant-loop-s : goal.invariant-loop-s
invariant-loop-s l = (l.set ≡ set_below l.s (is_among l.rows)) × (l.set < 256)
