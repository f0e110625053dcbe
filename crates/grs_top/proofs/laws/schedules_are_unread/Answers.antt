use Rattle.grs_top.proofs.Unread.{unread}
use Rattle.grs_top.proofs.laws.schedules_are_unread.Goals as goal

pub returns : goal.returns
returns c = unread
