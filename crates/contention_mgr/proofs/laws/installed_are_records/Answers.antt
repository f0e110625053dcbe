use Rattle.contention_mgr.proofs.ElementLemmas.{installed_are_records}
use Rattle.contention_mgr.proofs.laws.installed_are_records.Goals as goal

pub returns : goal.returns
returns c = installed_are_records
