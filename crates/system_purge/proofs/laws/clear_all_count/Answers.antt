use Rattle.system_purge.proofs.Counting.{clear_all_count}
use Rattle.system_purge.proofs.laws.clear_all_count.Goals as goal

pub returns : goal.returns
returns c = clear_all_count
