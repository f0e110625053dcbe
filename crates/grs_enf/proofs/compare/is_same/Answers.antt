use Rattle.grs_enf.proofs.CompareLemmas.{other-length}
use Rattle.grs_enf.proofs.compare.is_same.Goals as goal

pub returns-then-a-b : goal.returns-then-a-b
returns-then-a-b c = other-length c.args.a.now c.args.b.now c.if-a-b.true
