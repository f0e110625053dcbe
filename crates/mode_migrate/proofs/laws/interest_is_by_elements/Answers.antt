use Rattle.mode_migrate.proofs.TableWords.{table-interest}
use Rattle.mode_migrate.proofs.laws.interest_is_by_elements.Goals as goal

pub returns : goal.returns
returns c = λ entries t some few. table-interest entries some t few
