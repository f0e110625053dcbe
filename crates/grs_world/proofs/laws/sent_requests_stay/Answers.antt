use Rattle.grs_world.proofs.gather.StaysSent.{sent_stays}
use Rattle.grs_world.proofs.laws.sent_requests_stay.Goals as goal

pub returns : goal.returns
returns c = sent_stays
