use Rattle.grs_world.proofs.gather.Again.{send_again}
use Rattle.grs_world.proofs.laws.notices_send_again.Goals as goal

pub returns : goal.returns
returns c = send_again
