use Rattle.grs_medium.proofs.Replies.{replies_are_listed}
use Rattle.grs_medium.proofs.laws.replies_are_listed.Goals as goal

pub returns : goal.returns
returns c = replies_are_listed
