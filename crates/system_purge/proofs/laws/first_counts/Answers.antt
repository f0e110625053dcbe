use Rattle.system_purge.proofs.Counting.{first_counts}
use Rattle.system_purge.proofs.laws.first_counts.Goals as goal

pub returns : goal.returns
returns c = first_counts
