use Rattle.grs_known.proofs.known.Coming.{decided_at_once}
use Rattle.grs_known.proofs.laws.decided_at_once.Goals as goal

pub returns : goal.returns
returns c = decided_at_once
