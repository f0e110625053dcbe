use Rattle.lock_structure.proofs.LawProofs.{words_begin}
use Rattle.lock_structure.proofs.laws.words_begin.Goals as goal

pub returns : goal.returns
returns c = words_begin
