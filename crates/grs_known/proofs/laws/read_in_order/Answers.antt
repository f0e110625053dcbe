use Rattle.grs_known.proofs.known.Coming.{read_in_order}
use Rattle.grs_known.proofs.laws.read_in_order.Goals as goal

pub returns : goal.returns
returns c = read_in_order
