use Rattle.system_purge.proofs.Counting.{counting_are_clear}
use Rattle.system_purge.proofs.laws.counting_are_clear.Goals as goal

pub returns : goal.returns
returns c = counting_are_clear
