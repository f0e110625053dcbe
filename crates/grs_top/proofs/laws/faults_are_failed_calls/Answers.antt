use Rattle.grs_top.proofs.Complete.{no_faults}
use Rattle.grs_top.proofs.laws.faults_are_failed_calls.Goals as goal

pub returns : goal.returns
returns c = no_faults
