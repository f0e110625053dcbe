use Rattle.grs_top.proofs.OneHistory.{answers_show_histories}
use Rattle.grs_top.proofs.laws.answers_show_histories.Goals as goal

pub returns : goal.returns
returns c = answers_show_histories
