use Rattle.grs_top.proofs.GenLaws.{line_whole}
use Rattle.grs_top.proofs.laws.line_unless_memory.Goals as goal

pub returns : goal.returns
returns c = line_whole
