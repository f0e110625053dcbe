use Rattle.mode_migrate.proofs.PartLaws.{parts_are_numbered}
use Rattle.mode_migrate.proofs.laws.parts_are_numbered.Goals as goal

pub returns : goal.returns
returns c = parts_are_numbered
