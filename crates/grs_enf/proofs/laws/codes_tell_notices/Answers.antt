use Rattle.grs_enf.proofs.CodeLaws.{codes_tell}
use Rattle.grs_enf.proofs.laws.codes_tell_notices.Goals as goal

pub returns : goal.returns
returns c = codes_tell
