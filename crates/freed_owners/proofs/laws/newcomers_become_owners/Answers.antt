use Rattle.freed_owners.proofs.LawProofs.{newcomers_become_owners}
use Rattle.freed_owners.proofs.laws.newcomers_become_owners.Goals as goal

pub returns : goal.returns
returns c = newcomers_become_owners
