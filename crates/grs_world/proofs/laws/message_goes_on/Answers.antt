use Rattle.grs_world.proofs.run.GoesOn.{message_waits}
use Rattle.grs_world.proofs.laws.message_goes_on.Goals as goal

pub returns : goal.returns
returns c = message_waits
