use Rattle.star_client.proofs.RankLaws.{answers_give_ranks}
use Rattle.star_client.proofs.laws.answers_give_ranks.Goals as goal

pub returns : goal.returns
returns c = answers_give_ranks
