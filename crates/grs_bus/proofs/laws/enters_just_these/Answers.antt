use Rattle.grs_bus.proofs.EntryLaws.{enters_just_these}
use Rattle.grs_bus.proofs.laws.enters_just_these.Goals as goal

pub returns : goal.returns
returns c = enters_just_these
