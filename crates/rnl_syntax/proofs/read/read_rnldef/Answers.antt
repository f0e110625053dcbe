use Rattle.rnl_syntax.proofs.ReadLaws.{only}
use Rattle.rnl_syntax.proofs.FaultLaws.{answers}
use Rattle.rnl_syntax.proofs.read.read_rnldef.Goals as goal

pub returns-clause-exact : goal.returns-clause-exact
returns-clause-exact c = answers c.args.text.now c.read_front.result c.read_front.ensures

pub returns-clause-only : goal.returns-clause-only
returns-clause-only c = only c.args.text.now c.read_front.result c.read_front.ensures
