use Rattle.grs_medium.proofs.Removals.{removal_keeps_mail}
use Rattle.grs_medium.proofs.laws.removal_keeps_mail.Goals as goal

pub returns : goal.returns
returns c = removal_keeps_mail
