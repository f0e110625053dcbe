use Rattle.grs_known.proofs.known.Coming.{control_is_sent}
use Rattle.grs_known.proofs.laws.control_is_sent.Goals as goal

pub returns : goal.returns
returns c = control_is_sent
