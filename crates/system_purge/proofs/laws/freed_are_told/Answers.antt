use Rattle.system_purge.proofs.TellEach.{freed_are_told}
use Rattle.system_purge.proofs.laws.freed_are_told.Goals as goal

pub returns : goal.returns
returns c = freed_are_told
