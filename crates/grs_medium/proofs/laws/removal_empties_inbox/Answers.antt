use Rattle.grs_medium.proofs.Removals.{removal_empties_inbox}
use Rattle.grs_medium.proofs.laws.removal_empties_inbox.Goals as goal

pub returns : goal.returns
returns c = removal_empties_inbox
