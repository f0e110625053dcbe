use Rattle.rnl_syntax.proofs.Used.{used_own}
use Rattle.rnl_syntax.proofs.laws.used_bytes.Goals as goal

pub returns : goal.returns
returns c = record { own = used_own }
