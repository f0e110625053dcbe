use Rattle.grs_audit.proofs.StepLaws.{next_line_is_said}
use Rattle.grs_audit.proofs.laws.next_line_is_said.Goals as goal

pub returns : goal.returns
returns c = next_line_is_said
