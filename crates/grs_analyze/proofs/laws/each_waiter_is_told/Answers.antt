use Rattle.grs_analyze.proofs.WaitLemmas.{each_told}
use Rattle.grs_analyze.proofs.laws.each_waiter_is_told.Goals as goal

pub returns : goal.returns
returns c = each_told
